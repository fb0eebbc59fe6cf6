-- What the fast reader takes from the front of a file.
use Rattle.std.specs.Prelude.{◌≡◌, ◌⊎◌, ℕ, Bool, not, ◌&&◌, true, List, ◌∷◌, ◌++◌, length, Option, Some, IfSome}
use Rattle.std.specs.List.{AllPass, list_all}
use Rattle.tbl_text.specs.declared.fast.LineCursor.{LineCursor}
use Rattle.tbl_text.specs.Field.{is_text_byte, is_text}
use Rattle.tbl_text.specs.Lines.{is_bar, pieces}

-- a byte of text that is no bar
abbrev pub is_field_byte : ℕ → Bool
is_field_byte b = is_text_byte b && not (is_bar b)

-- the first field of old is text and reads as this value, and new is what follows its bar
pub record Takes {A : Type 0} (read : List ℕ → A) (old new : List ℕ) (value : A) : Type 0 where
  pub field : List ℕ
  pub cut : old ≡ field ++ 124 ∷ new
  pub clean : AllPass is_field_byte field
  pub reads : read field ≡ value

-- what was found, if anything, is the value of the field at the front, which the cursor has passed
abbrev pub Finds : {A : Type 0} → (List ℕ → Option A) → LineCursor → LineCursor → Option A → Type 0
Finds read old new found = IfSome found (λ value. Takes read old.rest.now new.rest.now (Some value))

-- the bytes are five fields of text
pub record IsTail (bytes : List ℕ) : Type 0 where
  pub count : length (pieces 124 bytes) ≡ 5
  pub texts : list_all is_text (pieces 124 bytes) ≡ true

-- a line's end, LF or CR and LF, and then the rest
abbrev pub IsEnd : List ℕ → List ℕ → Type 0
IsEnd bytes rest = (bytes ≡ 10 ∷ rest) ⊎ (bytes ≡ 13 ∷ 10 ∷ rest)

-- old begins with five fields of text and a line's end, and new is what follows them
pub record EndsLine (old new : List ℕ) : Type 0 where
  pub tail : List ℕ
  pub back : List ℕ
  pub cut : old ≡ tail ++ back
  pub text : is_text tail ≡ true
  pub fields : IsTail tail
  pub end : IsEnd back new
