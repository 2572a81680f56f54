-- Going over the seats is going over all that live.
use Rattle.std.proofs.Common.{◌≡◌, ℕ, zero, suc, ◌-◌, ◌||◌, Bool, true, false, List, [], ◌∷◌, ◌++◌, length, Option, Some, None, refl, sym, ap, ◌∙◌, inl, inr}
use Rattle.sig_nodes.specs.declared.node.Node.{Node}
use Rattle.sig_nodes.specs.declared.node.Body.{Body}
use Rattle.sig_nodes.specs.declared.node.Body.TheVariants.{Gone, Cell as CellBody, Computed as ComputedBody}
use Rattle.sig_nodes.specs.Nodes.{asks_host_body, asks_host_here, body_at, is_live_body, seat_at, some_asks_body}
use Rattle.sig_graph.specs.Search.{of_holder, some_holder}
use Rattle.sig_base.specs.declared.limits.TheConstants.{MOST_NODES}
use Rattle.sig_seats.specs.Seats.{all_seats, empty_seats, holder}
use Rattle.signal_model.proofs.Shared.{either, or_right}

-- one of two
first : (a b : Bool) → a ≡ true → (a || b) ≡ true
first a b h = ap (λ x. x || b) h

-- tests that each hold where the other does are the same
same_tests : (a b : Bool) → (a ≡ true → b ≡ true) → (b ≡ true → a ≡ true) → a ≡ b
same_tests true b f g = sym (f refl)
same_tests false true f g = g refl
same_tests false false f g = refl

-- where a holder passes, one of all does
holder_passes : (f : ℕ → Bool) (hs : List (Option ℕ)) (s n : ℕ) → holder hs s ≡ Some n → f n ≡ true → some_holder f hs ≡ true
holder_passes f [] s n at h = cc
holder_passes f (o ∷ hs) zero n at h = first (of_holder f o) (some_holder f hs) (ap (of_holder f) at ∙ h)
holder_passes f (o ∷ hs) (suc s) n at h = or_right (of_holder f o) (some_holder f hs) (holder_passes f hs s n at h)

-- where one passes, it is a number that does
passing : (f : ℕ → Bool) (hs : List (Option ℕ)) (P : Type 0) → ((n : ℕ) → f n ≡ true → P) → some_holder f hs ≡ true → P
passing f [] P k h = cc
passing f (None ∷ hs) P k h = passing f hs P k h
passing f (Some n ∷ hs) P k h = elim (either (f n) (some_holder f hs) h) [ inl e ↦ k n e | inr e ↦ passing f hs P k e ]

-- seats that nobody has hold nobody who does
empty_holders : (f : ℕ → Bool) (n : ℕ) → some_holder f (empty_seats n) ≡ false
unfolding empty_seats
empty_holders f zero = refl
empty_holders f (suc n) = empty_holders f n

more_holders : (f : ℕ → Bool) (hs : List (Option ℕ)) (n : ℕ) → some_holder f (hs ++ empty_seats n) ≡ some_holder f hs
more_holders f [] n = empty_holders f n
more_holders f (h ∷ hs) n = ap (λ b. of_holder f h || b) (more_holders f hs n)

-- one of all who have seats does where one of those in the table does
pub all_holders : (f : ℕ → Bool) (hs : List (Option ℕ)) → some_holder f (all_seats hs) ≡ some_holder f hs
unfolding all_seats
all_holders f hs = more_holders f hs (MOST_NODES - length hs)

-- what asks at a place is one of those that ask
place_asks : (place : ℕ) (xs : List Node) (n : ℕ) → asks_host_here place xs n ≡ true → some_asks_body place xs ≡ true
place_asks place [] n h = h
place_asks place (x ∷ xs) zero h = first (asks_host_body place x.body) (some_asks_body place xs) h
place_asks place (x ∷ xs) (suc n) h = or_right (asks_host_body place x.body) (some_asks_body place xs) (place_asks place xs n h)

-- and each of those has a place
asking : (place : ℕ) (xs : List Node) (P : Type 0) → ((n : ℕ) → asks_host_here place xs n ≡ true → P) → some_asks_body place xs ≡ true → P
asking place [] P k h = cc
asking place (x ∷ xs) P k h =
    elim (either (asks_host_body place x.body) (some_asks_body place xs) h) [ inl e ↦ k 0 e | inr e ↦ asking place xs P (λ n. k (suc n)) e ]

-- what asks lives
asks_lives : (place : ℕ) (b : Body) → asks_host_body place b ≡ true → is_live_body b ≡ true
asks_lives place Gone h = h
asks_lives place (CellBody v r) h = refl
asks_lives place (ComputedBody c) h = refl

-- as each that lives has a seat, one who has a seat asks a host formula where one of all nodes does
pub holders_ask : (place : ℕ) (xs : List Node) (hs : List (Option ℕ)) → ((n : ℕ) → is_live_body (body_at xs n) ≡ true → holder hs (seat_at xs n) ≡ Some n) →
    some_holder (asks_host_here place xs) hs ≡ some_asks_body place xs
holders_ask place xs hs seated =
    same_tests (some_holder (asks_host_here place xs) hs) (some_asks_body place xs)
    (λ h. passing (asks_host_here place xs) hs (some_asks_body place xs ≡ true) (λ n e. place_asks place xs n e) h)
    (λ h. asking place xs (some_holder (asks_host_here place xs) hs ≡ true)
    (λ n e. holder_passes (asks_host_here place xs) hs (seat_at xs n) n (seated n (asks_lives place (body_at xs n) e)) e) h)
