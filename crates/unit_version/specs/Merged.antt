-- Entries with some of their keys changed.
use Rattle.std.specs.Prelude.{ℕ, ◌≡◌, ◌<◌, ◌≤◌, ◌==◌, List, [], ◌∷◌, ◌++◌, length, find, slice_index_or, slice_range, Option, Some, None}
use Rattle.std.specs.List.Sorted.{IsStrictlyIncreasing}
use Rattle.std.specs.Option.{option_map}
use Rattle.unit_version.specs.Changes.{change_of_code}
use Rattle.unit_version.specs.Entry.{codes}
use Rattle.unit_version.specs.declared.changes.keyed.KeyChange.{KeyChange}
use Rattle.unit_version.specs.declared.keys.entry.Entry.{Entry}

-- the entry with a code, or none
abbrev pub entry_of : ℕ → List Entry → Option Entry
entry_of code entries = find (λ e. e.code == code) entries

-- the entry that a change leaves, or none; without a change, that which there was
abbrev pub change_entry : KeyChange → Option Entry
change_entry c = option_map (λ tuple. record { code = c.code; row = c.row; tuple = tuple }) c.after

abbrev pub entry_then : Option Entry → Option KeyChange → Option Entry
entry_then entry None = entry
entry_then entry (Some c) = change_entry c

-- by rising codes the entries after changes: each code has what its change leaves
pub record AreMerged (changes : List KeyChange) (old new : List Entry) : Type 0 where
  pub rising : IsStrictlyIncreasing (codes new)
  pub each : (code : ℕ) → entry_of code new ≡ entry_then (entry_of code old) (change_of_code code changes)

-- the same as a list
abbrev pub entry_list : Option Entry → List Entry
entry_list None = []
entry_list (Some e) = e ∷ []

abbrev pub change_entries : KeyChange → List Entry
change_entries c = entry_list (change_entry c)

-- the codes of the first so many entries are below one
abbrev pub AreBefore : ℕ → ℕ → List Entry → Type 0
AreBefore code place entries = (k : ℕ) (e : Entry) → k < place → (slice_index_or entries k e).code < code

-- the entries with a code stand from one place up to another
pub record IsGap (entries : List Entry) (code from to : ℕ) : Type 0 where
  pub order : from ≤ to
  pub within : to ≤ length entries
  pub before : AreBefore code from entries
  pub same : (k : ℕ) (e : Entry) → from ≤ k → k < to → (slice_index_or entries k e).code ≡ code
  pub behind : (k : ℕ) (e : Entry) → to ≤ k → k < length entries → code < (slice_index_or entries k e).code

-- the entries from a place up to those of a change's code are copied, and its own entry stands for these
pub record IsMergeStep (entries : List Entry) (from : ℕ) (change : KeyChange) (old new : List Entry) (next : ℕ)
    : Type 0 where
  pub gap : ℕ
  pub is_gap : IsGap entries change.code gap next
  pub order : from ≤ gap
  pub made : new ≡ old ++ slice_range entries from gap ++ change_entries change
