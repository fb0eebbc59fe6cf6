-- What it is to read a text from its front.
use Rattle.std.specs.Prelude.{◌≡◌, ◌⊎◌, ℕ, ◌+◌, ◌-◌, ◌*◌, ◌<◌, ◌≤◌, ◌==◌, ◌≢◌, Bool, false, ◌&&◌, nat_le, List, [], ◌∷◌, ◌++◌, length, slice_index, codes, Option, Some, None}
use Rattle.query_report.specs.Field.{field}

-- what is left to read, or none once the text was found to be no report
abbrev pub Left : Type 0
Left = Option (List ℕ)

-- a value was read: its text stood before what is left now, and any fitting value whose text stood there, and behind it
-- what may follow such a text, is this one
pub record Reads {V : Type 0} (text : V → List ℕ) (fits : V → Type 0) (follows : List ℕ → Type 0) (before : Left)
    (value : V) (after : Left) : Type 0 where
  pub sound : (rest : List ℕ) → after ≡ Some rest → before ≡ Some (text value ++ rest)
  pub finds : (other : V) (rest : List ℕ) → fits other → follows rest → before ≡ Some (text other ++ rest)
      → (other ≡ value) × (after ≡ Some rest)

-- a known text was passed over
pub record Passes (text : List ℕ) (follows : List ℕ → Type 0) (before : Left) (after : Left) : Type 0 where
  pub sound : (rest : List ℕ) → after ≡ Some rest → before ≡ Some (text ++ rest)
  pub finds : (rest : List ℕ) → follows rest → before ≡ Some (text ++ rest) → after ≡ Some rest

-- anything may follow
abbrev pub Anything : List ℕ → Type 0
Anything rest = Unit {0}

-- this byte stands at the front
abbrev pub begins : ℕ → Left → Bool
begins byte (Some (b ∷ bytes)) = b == byte
begins byte (Some []) = false
begins byte None = false

-- 0 to 9
abbrev pub is_digit : ℕ → Bool
is_digit b = nat_le 48 b && nat_le b 57

-- the number that decimal digits spell, after those that spelled n
abbrev pub spelled_after : ℕ → List ℕ → ℕ
spelled_after n [] = n
spelled_after n (b ∷ digits) = spelled_after (n * 10 + (b - 48)) digits

abbrev pub spelled : List ℕ → ℕ
spelled digits = spelled_after 0 digits

-- how many digits write a number that is read: at most 16, and none of them a leading zero
abbrev pub IsNumeral : List ℕ → Type 0
IsNumeral digits = (0 < length digits) × (length digits ≤ 16) × (slice_index digits 0 ≡ 48 → length digits ≡ 1)

-- no digit stands at the front
abbrev pub EndsNumber : List ℕ → Type 0
EndsNumber [] = Unit {0}
EndsNumber (b ∷ bytes) = is_digit b ≡ false

-- a text that may follow a number
abbrev pub IsLabel : List ℕ → Type 0
IsLabel [] = ⊥
IsLabel (b ∷ bytes) = is_digit b ≡ false

-- below 2 ^ 32
abbrev pub IsNumber : ℕ → Type 0
IsNumber n = n < 4_294_967_296

-- no reply's line stands at the front
abbrev pub EndsReplies : List ℕ → Type 0
EndsReplies rest = begins 119 (Some rest) ≡ false

-- no line of this worker stands at the front: a line of another one does, or none
abbrev pub EndsWorker : ℕ → List ℕ → Type 0
EndsWorker worker rest =
    EndsReplies rest
    ⊎ ((other : ℕ) × (more : List ℕ) × IsNumber other × (other ≢ worker)
    × (rest ≡ field (codes "w") other ++ 32 ∷ more))

-- what a look at the front says: whether a line of this worker stands there
pub record IsAtWorker (worker : ℕ) (now : Left) (result : Bool) : Type 0 where
  pub line : (other : ℕ) (rest : List ℕ) → IsNumber other → EndsNumber rest
      → now ≡ Some (field (codes "w") other ++ rest) → result ≡ (other == worker)
  pub none : begins 119 now ≡ false → result ≡ false
