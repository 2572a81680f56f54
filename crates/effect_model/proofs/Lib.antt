pub mod SharedLines
