-- A file of deletes is read line by line: the orders that were read stand in front of what the rest says.
use Rattle.std.proofs.Common.{◌++◌, List, ℕ, Result, Ok, Err}

-- orders that were read before, and what the lines after them say
abbrev pub with_front : List ℕ → Result (List ℕ) ℕ → Result (List ℕ) ℕ
with_front front (Ok orders) = Ok (front ++ orders)
with_front front (Err n) = Err n
