-- The key pages of tables before deltas and after them.
use Rattle.std.proofs.Common.{◌≡◌, ◌≢◌, ℕ, ◌%◌, ◌<◌, List, length, map, get_or, slice_get, Option, Some, None, refl, sym, ap, subst, ◌∙◌, inl, inr, arith}
use Rattle.std.specs.List.{All}
use Rattle.std.specs.Prelude.{AllPairs}
use Rattle.std.specs.Option.{option_map}
use Rattle.std.specs.List.Sorted.{IsStrictlyIncreasing}
use Rattle.std.proofs.lemmas.List.{get_or-map, get_or_default, length-map}
use Rattle.std.proofs.lemmas.Option.{same_Some, slice_get_within, get_or_from_slice_get}
use Rattle.cubit_base.specs.Key.{KeyValue}
use Rattle.cubit_base.specs.Tuple.{TupleValue}
use Rattle.cubit_base.specs.Table.{Row}
use Rattle.cubit_base.specs.History.{after, IsHistory, is_of_key, last_delta}
use Rattle.cubit_base.specs.declared.delta.Delta.{Delta}
use Rattle.unit_version.specs.Changes.{AreKeyChanges, change_of_code, key_change, key_delta}
use Rattle.unit_version.specs.Entry.{code_of, codes, key_of_code, keyed}
use Rattle.unit_version.specs.KeyedRow.{KeyedRow, by_row, keyed_from}
use Rattle.unit_version.specs.Merged.{AreMerged, change_entry, entry_of, entry_then}
use Rattle.unit_version.specs.declared.changes.keyed.KeyChange.{KeyChange}
use Rattle.unit_version.specs.declared.keys.entry.Entry.{Entry}
use Rattle.unit_version.proofs.Digests.{last-placed}
use Rattle.unit_version.proofs.Entries.{IsAt-by_row, Has-keyed, code_of-key, key_of-code, rest_of-key}
use Rattle.unit_version.proofs.Finds.{find-at, find-placed, numbers-far}
use Rattle.unit_version.proofs.KeyLives.{DeltaLaws, Lives, LivesBy, LivesOnce, IsTold, row-parts, told-by_last}
use Rattle.unit_version.proofs.KeyPages.{Rises-keyed_from}
use Rattle.unit_version.proofs.KeyedRows.{Has, by_row-Has, Rises-by_row, same-Rises, same_key-true}
use Rattle.unit_version.proofs.LiveRows.{Lives-Has, Has-Lives, page-Has}
use Rattle.unit_version.proofs.RowStates.{mapped, unmapped}
use Rattle.unit_version.proofs.SortedCodes.{HasDistinctRows-pairs}

abbrev code : Entry → ℕ
code e = e.code

-- the entries that hold the live rows of a page of a table
module _ (rest other : ℕ) (other_low : other < 64) (table : List Row) (old : List Entry)
    (up : IsStrictlyIncreasing (codes old)) (is : by_row (map (keyed other) old) ≡ keyed_from rest 0 table) where
  -- a key of the page that lives in the table has its entry
  pub entry-of_lives : (key : KeyValue) (n : ℕ) (tuple : TupleValue) → key.order % 64 ≡ rest → Lives table key n tuple
      → (key.line < 8) × (entry_of (code_of key) old ≡ Some (record { code = code_of key; row = n; tuple = tuple }))
  entry-of_lives key n tuple own lives =
      let x : KeyedRow = record { key = key; row = n; tuple = tuple } in
      let has : Has (by_row (map (keyed other) old)) x =
      subst (λ rows. Has rows x) (sym is) (Has-Lives rest table x own lives) in
      let there = IsAt-by_row other old x has in
      let e = there.entry in
      let of_key : key_of_code other e.code ≡ key = ap (λ (r : KeyedRow). r.key) there.is in
      let of_row : e.row ≡ n = ap (λ (r : KeyedRow). r.row) there.is in
      let of_tuple : e.tuple ≡ tuple = ap (λ (r : KeyedRow). r.tuple) there.is in
      let of_code : e.code ≡ code_of key = sym (code_of-key other e.code other_low) ∙ ap code_of of_key in
      let line : e.code % 8 ≡ key.line = ap (λ (k : KeyValue). k.line) of_key in
      let found = find-at code old there.place e up there.within there.at in
      let built : (f : ℕ → ℕ → TupleValue → Entry) → f e.code e.row e.tuple ≡ f (code_of key) n tuple =
      λ f. rw (of_code, of_row, of_tuple) refl in (
        omega (arith, line),
        ap (λ m. entry_of m old) (sym of_code) ∙ found
            ∙ ap Some (built (λ c r t. record { code = c; row = r; tuple = t })),
      )

  -- and an entry's key lives in the table
  pub lives-of_entry : (key : KeyValue) (e : Entry) → key.order % 64 ≡ rest → key.line < 8
      → entry_of (code_of key) old ≡ Some e → Lives table key e.row e.tuple
  lives-of_entry key e own low found =
      let placed = find-placed code (code_of key) old e found in
      let x = keyed other e in
      let has : Has (map (keyed other) old) x =
      rw (placed.at e) at (Has-keyed other old placed.place e placed.within) in
      let there : Has (keyed_from rest 0 table) x =
      subst (λ rows. Has rows x) is (by_row-Has (map (keyed other) old) x has) in
      let same : other ≡ key.order % 64 =
      sym (rest_of-key other e.code other_low) ∙ page-Has rest 0 table x there ∙ sym own in
      let of_key : key_of_code other e.code ≡ key =
      ap (λ r. key_of_code r e.code) same ∙ ap (key_of_code (key.order % 64)) placed.number ∙ key_of-code key low in
      rw of_key at (Lives-Has rest table x there)

  -- so a key of the page lives once
  pub lives-once : (key : KeyValue) → key.order % 64 ≡ rest → LivesOnce table key
  lives-once key own i j x y at_i at_j =
      let a = (entry-of_lives key i x own at_i).1 in
      let b = (entry-of_lives key j y own at_j).1 in
      let same = same_Some _ _ (sym a ∙ b) in
      ap (λ (e : Entry). e.row) same

  module _ (laws : DeltaLaws) (limit : ℕ) (h : List Delta) (lawful : IsHistory limit table h) (changes : List KeyChange)
      (are : AreKeyChanges rest h changes) (lines : All (λ d. d.key.line < 8) h) (new : List Entry)
      (merged : AreMerged changes old new) where
    told : (key : KeyValue) → key.order % 64 ≡ rest → IsTold (last_delta (is_of_key key) h) table (after table h) key
    told key own = told-by_last laws limit table h key (lives-once key own) lawful

    -- a key that lives after the deltas has its entry
    line-after : (key : KeyValue) (n : ℕ) (tuple : TupleValue) → key.order % 64 ≡ rest
        → Lives (after table h) key n tuple → key.line < 8
    line-after key n tuple own lives = by (last_delta (is_of_key key) h) refl ((told key own).to n tuple lives)
      where
        by : (found : Option Delta) → last_delta (is_of_key key) h ≡ found → LivesBy found table key n tuple
            → key.line < 8
        by None is_last before = (entry-of_lives key n tuple own before).0
        by (Some d) is_last before = elim (last-placed (is_of_key key) None h d is_last) [
          | inl none ↦ absurd cc
          | inr there ↦
              let within = slice_get_within h there.0 d there.1 in
              let line = rw (get_or_from_slice_get h there.0 d d there.1) at (lines there.0 d within) in
              let same = same_key-true d.key key there.2 in
              subst (λ (k : KeyValue). k.line < 8) same line
        ]

    entry-after : (key : KeyValue) (n : ℕ) (tuple : TupleValue) → key.order % 64 ≡ rest
        → Lives (after table h) key n tuple
        → entry_of (code_of key) new ≡ Some (record { code = code_of key; row = n; tuple = tuple })
    entry-after key n tuple own lives =
        merged.each (code_of key) ∙ by (last_delta (is_of_key key) h) ((told key own).to n tuple lives)
        (are.last key own (line-after key n tuple own lives))
      where
        by : (found : Option Delta) → LivesBy found table key n tuple
            → option_map key_change (change_of_code (code_of key) changes) ≡ option_map key_delta found
            → entry_then (entry_of (code_of key) old) (change_of_code (code_of key) changes)
            ≡ Some (record { code = code_of key; row = n; tuple = tuple })
        by None before same =
            ap (entry_then (entry_of (code_of key) old))
            (unmapped key_change (change_of_code (code_of key) changes) (sym same))
            ∙ (entry-of_lives key n tuple own before).1
        by (Some d) before same =
            let change = mapped key_change (change_of_code (code_of key) changes) (key_delta d) (sym same) in
            let c = change.0 in
            let of_code : c.code ≡ code_of key =
            (find-placed (λ (c : KeyChange). c.code) (code_of key) changes c change.1).number in
            let of_row : c.row ≡ n = ap (λ (p : ℕ × Option TupleValue). p.0) (sym change.2) ∙ before.0 in
            let of_after : c.after ≡ Some tuple = ap (λ (p : ℕ × Option TupleValue). p.1) (sym change.2) ∙ before.1 in
            let built : (f : ℕ → ℕ → Option TupleValue → Option Entry)
            → f c.code c.row c.after ≡ f (code_of key) n (Some tuple) =
            λ f. rw (of_code, of_row, of_after) refl in
            ap (entry_then (entry_of (code_of key) old)) change.1
            ∙ built (λ m r t. change_entry (record { code = m; row = r; after = t }))

    -- and an entry's key lives
    lives-after : (key : KeyValue) (e : Entry) → key.order % 64 ≡ rest → key.line < 8
        → entry_of (code_of key) new ≡ Some e → Lives (after table h) key e.row e.tuple
    lives-after key e own low found =
        by (change_of_code (code_of key) changes) (sym (merged.each (code_of key)) ∙ found) (are.last key own low)
      where
        by_delta : (d : Option Delta) → last_delta (is_of_key key) h ≡ d → LivesBy d table key e.row e.tuple
            → Lives (after table h) key e.row e.tuple
        by_delta d is_last before =
            (told key own).from e.row e.tuple
            (subst (λ (d : Option Delta). LivesBy d table key e.row e.tuple) (sym is_last) before)

        by : (change : Option KeyChange) → entry_then (entry_of (code_of key) old) change ≡ Some e
            → option_map key_change change ≡ option_map key_delta (last_delta (is_of_key key) h)
            → Lives (after table h) key e.row e.tuple
        by None is_entry same =
            by_delta None (unmapped key_delta (last_delta (is_of_key key) h) same)
            (lives-of_entry key e own low is_entry)
        by (Some c) is_entry same =
            let delta = mapped key_delta (last_delta (is_of_key key) h) (key_change c) same in
            let d = delta.0 in
            let of_row : d.row ≡ c.row = ap (λ (p : ℕ × Option TupleValue). p.0) (sym delta.2) in
            let of_after : d.after ≡ c.after = ap (λ (p : ℕ × Option TupleValue). p.1) (sym delta.2) in
            let tuple = mapped (λ t. record { code = c.code; row = c.row; tuple = t }) c.after e (sym is_entry) in
            by_delta (Some d) delta.1 (
              of_row ∙ sym (ap (λ (e : Entry). e.row) tuple.2),
              of_after ∙ tuple.1 ∙ sym (ap (λ (e : Entry). Some e.tuple) tuple.2),
            )

    module _ (low : rest < 64) where
      -- an entry at a place
      lives-at : (place : ℕ) (e : Entry) → place < length new → ((d : Entry) → get_or new place d ≡ e)
          → Lives (after table h) (key_of_code rest e.code) e.row e.tuple
      lives-at place e within at =
          let key = key_of_code rest e.code in
          let found = find-at code new place e merged.rising within at in
          let line : key.line < 8 = omega arith in
          lives-after key e (rest_of-key rest e.code low) line
          (ap (λ m. entry_of m new) (code_of-key rest e.code low) ∙ found)

      rows-apart : AllPairs (λ a b. a.row ≢ b.row) (map (keyed rest) new)
      rows-apart i j d order within same =
          let e : Entry = record { code = 0; row = 0; tuple = d.tuple } in
          let long = length-map new (keyed rest) in
          let a = get_or new i e in
          let b = get_or new j e in
          let of_a = get_or-map (keyed rest) new i e d (omega arith) in
          let of_b = get_or-map (keyed rest) new j e d (omega arith) in
          let rows : a.row ≡ b.row =
          ap (λ (r : KeyedRow). r.row) (sym of_a) ∙ same ∙ ap (λ (r : KeyedRow). r.row) of_b in
          let at_a = lives-at i a (omega arith) (λ d. get_or_default new i d e (omega arith)) in
          let at_b = lives-at j b (omega arith) (λ d. get_or_default new j d e (omega arith)) in
          let keys = (row-parts (key_of_code rest a.code) (key_of_code rest b.code) (Some a.tuple) (Some b.tuple)
          (sym at_a ∙ ap (slice_get (after table h)) rows ∙ at_b)).0 in
          let codes_same : a.code ≡ b.code =
          sym (code_of-key rest a.code low) ∙ ap code_of keys ∙ code_of-key rest b.code low in
          let far = numbers-far code new i j e e merged.rising order (omega arith) in
          omega arith

      -- the entries after the changes hold the live rows after the deltas
      pub keys-after : by_row (map (keyed rest) new) ≡ keyed_from rest 0 (after table h)
      keys-after =
          let rows = map (keyed rest) new in
          same-Rises (by_row rows) (keyed_from rest 0 (after table h))
          (Rises-by_row rows (HasDistinctRows-pairs rows rows-apart)) (Rises-keyed_from rest 0 (after table h))
          (λ x has.
          let there = IsAt-by_row rest new x has in
          let lives = lives-at there.place there.entry there.within there.at in
          subst (Has (keyed_from rest 0 (after table h))) there.is
          (Has-Lives rest (after table h) (keyed rest there.entry) (rest_of-key rest there.entry.code low) lives))
          (λ x has.
          let own = page-Has rest 0 (after table h) x has in
          let lives = Lives-Has rest (after table h) x has in
          let e : Entry = record { code = code_of x.key; row = x.row; tuple = x.tuple } in
          let placed = find-placed code (code_of x.key) new e (entry-after x.key x.row x.tuple own lives) in
          let entry : Has rows (keyed rest e) = rw (placed.at e) at (Has-keyed rest new placed.place e placed.within) in
          let of_key : key_of_code rest (code_of x.key) ≡ x.key =
          ap (λ r. key_of_code r (code_of x.key)) (sym own)
          ∙ key_of-code x.key (line-after x.key x.row x.tuple own lives) in
          by_row-Has rows x (subst (Has rows)
          (ap (λ (k : KeyValue). record { key = k; row = x.row; tuple = x.tuple }) of_key) entry))
