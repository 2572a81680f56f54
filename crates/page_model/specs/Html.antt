-- A page as HTML, after the HTML Standard's section on serialising fragments.
use Rattle.std.specs.Prelude.{ℕ, Bool, false, List, [], ◌++◌, if◌then◌else◌, codes}
use Rattle.std.specs.List.{flat_map}
use Rattle.html_out.specs.Html.{attribute, escaped, is_raw, is_void}
use Rattle.page_model.specs.Forest.{Forest, none, node}
use Rattle.page_model.specs.Labels.{Root, Text, Element, Kind}

-- `<`, the name, the attributes, `>`
abbrev pub opening : List ℕ → List (List ℕ × List ℕ) → List ℕ
opening name attributes = codes "<" ++ (name ++ (flat_map (λ (a : List ℕ × List ℕ). attribute a.0 a.1) attributes ++ codes ">"))

-- `</`, the name, `>`
abbrev pub closing : List ℕ → List ℕ
closing name = codes "</" ++ (name ++ codes ">")

-- an element around its children; a void one has neither those nor an end
abbrev pub element : List ℕ → List (List ℕ × List ℕ) → List ℕ → List ℕ
element name attributes children = opening name attributes ++ (if is_void name then [] else children ++ closing name)

-- a text, as it is or escaped
abbrev pub characters : Bool → List ℕ → List ℕ
characters raw text = if raw then text else escaped text

-- siblings one after the other, the texts among them as they are or escaped
abbrev pub html_in : Bool → Forest Kind → List ℕ
html_in raw none = []
html_in raw (node n Root k r) = html_in raw r
html_in raw (node n (Text t) k r) = characters raw t ++ html_in raw r
html_in raw (node n (Element name attributes) k r) = element name attributes (html_in (is_raw name) k) ++ html_in raw r

-- the children of the root
abbrev pub html_of : Forest Kind → List ℕ
html_of none = []
html_of (node n x k r) = html_in false k
