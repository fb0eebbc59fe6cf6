-- Files in memory by their names.
use Rattle.std.proofs.Common.{◌≡◌, ◌≢◌, ℕ, ◌<◌, ◌≤◌, List, [], ◌∷◌, ◌++◌, length, Bool, true, false, zero, suc, Option, Some, None, get_or, inl, inr, refl, sym, ◌∙◌, ap, cond, arith}
use Rattle.std.specs.List.{position_or_len, find}
use Rattle.std.specs.Option.{option_map, option_map_or, option_or}
use Rattle.std.specs.Str.{bytes_eq}
use Rattle.std.proofs.Math.ListN.{set}
use Rattle.std.proofs.lemmas.List.Folds.{find-set, find_at, find-append}
use Rattle.std.proofs.lemmas.List.Quantifiers.{position-Some}
use Rattle.std.proofs.lemmas.Option.{slice_get_past, slice_get_read, slice_get-get_or}
use Rattle.std.proofs.lemmas.Bool.{cases_lt, cond_below, cond_above, false_from_ne_true}
use Rattle.std.proofs.lemmas.Bool.Decides.{nat_tests}
use Rattle.std.proofs.lemmas.Slice.Eq.{bytes_eq-Decides}
use Rattle.cubit_io.specs.MemoryFile.{MemoryFileValue}
use Rattle.cubit_io.specs.MemoryFiles.{bytes_under, bytes_at, index_under}

-- the files of a `MemoryFiles`
abbrev FileList : Type 0
FileList = List MemoryFileValue

-- whether a file has this name
abbrev is_named : List ℕ → MemoryFileValue → Bool
is_named name file = bytes_eq file.name name

-- the bytes of a file, where there is one
abbrev bytes_of : Option MemoryFileValue → Option (List ℕ)
bytes_of file = option_map (λ f. f.bytes) file

-- what is read at an index has the bytes there
pub bytes_at_is : (files : FileList) (i : ℕ) (file : MemoryFileValue) → i < length files → file ≡ get_or files i file
    → bytes_at files i ≡ file.bytes
bytes_at_is files i file within is = rw (slice_get_read files (length files) i file refl within is) refl

-- the bytes under a name are those of the first file that has it
bytes_under_find : (files : FileList) (name : List ℕ) → bytes_under files name ≡ bytes_of (find (is_named name) files)
bytes_under_find files name = elim (cases_lt at (length files)) [
  | inl within ↦
      let there = slice_get-get_or files at (record { name = []; bytes = [] }) within in
      ap (option_map (bytes_at files)) (sym (cond_below at (length files) (Some at) None within))
      ∙ ap (λ file. Some (option_map_or (λ (f : MemoryFileValue). f.bytes) file [])) there
      ∙ ap bytes_of (sym (find_at (is_named name) files ∙ there))
  | inr past ↦
      ap (option_map (bytes_at files)) (sym (cond_above at (length files) (Some at) None None past refl))
      ∙ ap bytes_of (sym (find_at (is_named name) files ∙ slice_get_past files at past))
]
  where
    at : ℕ
    at = position_or_len (is_named name) files

-- a write over an element that does not pass, of one that does not pass either
find-set-other : (p : MemoryFileValue → Bool) (files : FileList) (i : ℕ) (old new : MemoryFileValue)
    → old ≡ get_or files i old → p old ≡ false → p new ≡ false → find p (set files i new) ≡ find p files
find-set-other p [] i old new reads not_old not_new = refl
find-set-other p (x ∷ xs) zero old new reads not_old not_new =
    let not_first = ap p (sym reads) ∙ not_old in rw (not_new, not_first) refl
find-set-other p (x ∷ xs) (suc i) old new reads not_old not_new =
    ap (cond (p x) (Some x)) (find-set-other p xs i old new reads not_old not_new)

-- none is no second choice
option_or-None : (file : Option MemoryFileValue) → option_or file None ≡ file
option_or-None None = refl
option_or-None (Some file) = refl

-- a file that has one name hasn't another
has_other_name : (file : MemoryFileValue) (name other : List ℕ) → file.name ≡ name → other ≢ name
    → is_named other file ≡ false
has_other_name file name other named differs =
    false_from_ne_true _ (λ same. differs (sym ((bytes_eq-Decides file.name other).0 same) ∙ named))

-- the first file of a name has it
old_is_named : (files : FileList) (name : List ℕ) (i : ℕ) (old : MemoryFileValue) → index_under files name ≡ Some i
    → old ≡ get_or files i old → is_named name old ≡ true
old_is_named files name i old first reads =
    ap (is_named name) reads ∙ (position-Some (is_named name) files i old first).1

-- the first file of a name is replaced by one of the same name: what is found under it
pub bytes_under-set_same : (files : FileList) (name : List ℕ) (i : ℕ) (old file : MemoryFileValue)
    → index_under files name ≡ Some i → old ≡ get_or files i old → file.name ≡ old.name
    → bytes_under (set files i file) name ≡ Some file.bytes
bytes_under-set_same files name i old file first reads keeps =
    let found : (i ≡ position_or_len (is_named name) files) × (i < length files) = grind (arith, nat_tests) in
    let is_named_too = ap (λ n. bytes_eq n name) keeps ∙ old_is_named files name i old first reads in
    bytes_under_find (set files i file) name
    ∙ ap bytes_of (find-set (is_named name) files i file found.0 found.1 is_named_too)

-- the same: what is found under any other name
pub bytes_under-set_other : (files : FileList) (name : List ℕ) (i : ℕ) (old file : MemoryFileValue)
    → index_under files name ≡ Some i → old ≡ get_or files i old → file.name ≡ old.name
    → (other : List ℕ) → other ≢ name → bytes_under (set files i file) other ≡ bytes_under files other
bytes_under-set_other files name i old file first reads keeps other differs =
    let named = (bytes_eq-Decides old.name name).0 (old_is_named files name i old first reads) in
    let old_differs = has_other_name old name other named differs in
    let new_differs = has_other_name file name other (keeps ∙ named) differs in
    let same = find-set-other (is_named other) files i old file reads old_differs new_differs in
    bytes_under_find (set files i file) other ∙ ap bytes_of same ∙ sym (bytes_under_find files other)

-- a file of a new name is put behind the others: what is found under it
pub bytes_under-push_same : (files : FileList) (name : List ℕ) (file : MemoryFileValue) → file.name ≡ name
    → index_under files name ≡ None → bytes_under (files ++ file ∷ []) name ≡ Some file.bytes
bytes_under-push_same files name file named missing =
    let past : length files ≤ position_or_len (is_named name) files = grind (arith, nat_tests) in
    let none = find_at (is_named name) files ∙ slice_get_past files _ past in
    let is_found = (bytes_eq-Decides file.name name).1 named in
    bytes_under_find (files ++ file ∷ []) name ∙ ap bytes_of (find-append (is_named name) files (file ∷ []))
    ∙ rw (none, is_found) refl

-- the same: what is found under any other name
pub bytes_under-push_other : (files : FileList) (name : List ℕ) (file : MemoryFileValue) → file.name ≡ name
    → (other : List ℕ) → other ≢ name → bytes_under (files ++ file ∷ []) other ≡ bytes_under files other
bytes_under-push_other files name file named other differs =
    let passed = has_other_name file name other named differs in
    bytes_under_find (files ++ file ∷ []) other ∙ ap bytes_of (find-append (is_named other) files (file ∷ []))
    ∙ ap bytes_of (rw passed (option_or-None (find (is_named other) files))) ∙ sym (bytes_under_find files other)
