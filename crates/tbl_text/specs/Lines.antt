-- Lines and fields are cuts of the whole list of bytes.
use Rattle.std.specs.List.{position_or_len}
use Rattle.std.specs.Prelude.{◌≡◌, ℕ, ◌+◌, ◌-◌, ◌==◌, ◌≤◌, Bool, min, List, [], ◌∷◌, length, map, take, slice_index, if◌then◌else◌}

-- the piece goes on at its front with this byte; where there is none, it is the first
abbrev pub onto_first : ℕ → List (List ℕ) → List (List ℕ)
onto_first b [] = (b ∷ []) ∷ []
onto_first b (piece ∷ pieces) = (b ∷ piece) ∷ pieces

-- the pieces that a separator ends, and what follows the last separator, where anything does
abbrev pub pieces : ℕ → List ℕ → List (List ℕ)
pieces separator [] = []
pieces separator (b ∷ bytes) =
    if b == separator then [] ∷ pieces separator bytes else onto_first b (pieces separator bytes)

-- the line without the one CR that may end it
abbrev pub without_cr : List ℕ → List ℕ
without_cr line = if slice_index line (length line - 1) == 13 then take (length line - 1) line else line

-- the place of the first LF, or the number of bytes
abbrev pub line_end : List ℕ → ℕ
line_end bytes = position_or_len (λ b. b == 10) bytes

-- the length of the first line without its line end
abbrev pub line_len : List ℕ → ℕ
line_len bytes = length (without_cr (take (line_end bytes) bytes))

-- where the next line begins
abbrev pub next_line : List ℕ → ℕ
next_line bytes = min (line_end bytes + 1) (length bytes)

-- the lines of a file: LF ends a line, and the last may lack it
abbrev pub lines_of : List ℕ → List (List ℕ)
lines_of bytes = map without_cr (pieces 10 bytes)

-- what stands between fields
abbrev pub is_bar : ℕ → Bool
is_bar b = b == 124

-- the last byte is a bar
abbrev pub EndsInBar : List ℕ → Type 0
EndsInBar bytes = (1 ≤ length bytes) × (slice_index bytes (length bytes - 1) ≡ 124)

-- the fields of a line: a bar ends a field, and the last may lack it; an empty line has one field
abbrev pub fields_of : List ℕ → List (List ℕ)
fields_of [] = [] ∷ []
fields_of (b ∷ line) = pieces 124 (b ∷ line)
