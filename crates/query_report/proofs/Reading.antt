-- Texts that are read one piece behind another.
use Rattle.std.proofs.Common.{◌≡◌, ◌⊎◌, inl, inr, ℕ, suc, ◌+◌, ◌<◌, ◌∙◌, List, [], ◌∷◌, ◌++◌, length, Some, None, decimal, refl, sym, ap, subst, append_assoc, arith}
use Rattle.std.proofs.lemmas.List.{append-nil, length_push}
use Rattle.std.specs.List.{AllByRecursion}
use Rattle.query_report.specs.Field.{field, each_text}
use Rattle.query_report.specs.Reading.{Left, Reads, Passes, Anything, EndsNumber, IsLabel}

-- a field may follow a number
pub field-ends : (label : List ℕ) (n : ℕ) (rest : List ℕ) → IsLabel label → EndsNumber (field label n ++ rest)
unfolding field
field-ends [] n rest is = absurd is
field-ends (b ∷ label) n rest is = is

-- a reader has failed, or something is left
pub left_cases : (left : Left) → (left ≡ None) ⊎ ((rest : List ℕ) × (left ≡ Some rest))
left_cases None = inl refl
left_cases (Some rest) = inr (rest, refl)

pub failed : {left : Left} {rest : List ℕ} → left ≡ None → left ≡ Some rest → ⊥
failed none some = cc

-- nothing that fits stands there
pub reads-fails : {V : Type 0} {text : V → List ℕ} {fits : V → Type 0} {follows : List ℕ → Type 0} {before : Left}
    (value : V) → ((other : V) (rest : List ℕ) → fits other → follows rest → before ≡ Some (text other ++ rest) → ⊥)
    → Reads text fits follows before value None
reads-fails value other = record {
  sound = λ rest e. absurd cc;
  finds = λ x rest fit ends e. absurd (other x rest fit ends e);
}

-- the same, spelled otherwise
pub reads-is : {V : Type 0} {text : V → List ℕ} {fits : V → Type 0} {follows : List ℕ → Type 0} {before after : Left}
    {value : V} (before' : Left) (value' : V) (after' : Left) → Reads text fits follows before value after
    → before ≡ before' → value ≡ value' → after ≡ after' → Reads text fits follows before' value' after'
reads-is {text = text} before' value' after' reads b v a = record {
  sound = λ rest e. sym b ∙ reads.sound rest (a ∙ e) ∙ ap (λ x. Some (text x ++ rest)) v;
  finds = λ other rest fit ends e.
      let found = reads.finds other rest fit ends (b ∙ e) in (found.0 ∙ v, sym a ∙ found.1);
}

both : {V W : Type 0} (p q : V × W) → p.0 ≡ q.0 → p.1 ≡ q.1 → p ≡ q
both {V = V} {W = W} p q first second =
    let pair : V → W → V × W = λ a b. (a, b) in ap (λ a. pair a p.1) first ∙ ap (λ b. pair q.0 b) second

-- a value behind another
pub reads-and : {V W : Type 0} {t : V → List ℕ} {u : W → List ℕ} {f : V → Type 0} {g : W → Type 0}
    {ends ends' : List ℕ → Type 0} {before mid after : Left} {v : V} {w : W}
    → Reads t f ends before v mid → Reads u g ends' mid w after
    → ((y : W) (rest : List ℕ) → g y → ends' rest → ends (u y ++ rest))
    → Reads (λ (p : V × W). t p.0 ++ u p.1) (λ p. f p.0 × g p.1) ends' before (v, w) after
reads-and {t = t} {u = u} {v = v} {w = w} one two next = record {
  sound = λ rest e.
      one.sound (u w ++ rest) (two.sound rest e) ∙ ap Some (sym (append_assoc (t v) (u w) rest));
  finds = λ other rest fit ends e.
      let first = one.finds other.0 (u other.1 ++ rest) fit.0 (next other.1 rest fit.1 ends)
      (e ∙ ap Some (append_assoc (t other.0) (u other.1) rest)) in
      let second = two.finds other.1 rest fit.1 ends first.1 in
      (both other (v, w) first.0 second.0, second.1);
}

-- the same, where a value that fits depends on the one before it
pub reads-given : {V W : Type 0} {t : V → List ℕ} {u : W → List ℕ} {f : V → Type 0} {g : W → Type 0}
    {ends ends' : List ℕ → Type 0} {before mid after : Left} {v : V} {w : W} (fits : V × W → Type 0)
    → Reads t f ends before v mid → Reads u g ends' mid w after → ((p : V × W) → fits p → f p.0)
    → ((p : V × W) → fits p → p.0 ≡ v → g p.1)
    → ((p : V × W) (rest : List ℕ) → fits p → ends' rest → ends (u p.1 ++ rest))
    → Reads (λ (p : V × W). t p.0 ++ u p.1) fits ends' before (v, w) after
reads-given {t = t} {u = u} {v = v} {w = w} fits one two fit given next = record {
  sound = λ rest e.
      one.sound (u w ++ rest) (two.sound rest e) ∙ ap Some (sym (append_assoc (t v) (u w) rest));
  finds = λ other rest is ends e.
      let first = one.finds other.0 (u other.1 ++ rest) (fit other is) (next other rest is ends)
      (e ∙ ap Some (append_assoc (t other.0) (u other.1) rest)) in
      let second = two.finds other.1 rest (given other is first.0) ends first.1 in
      (both other (v, w) first.0 second.0, second.1);
}

-- a value behind a known text
pub passes-then : {W : Type 0} {text : List ℕ} {u : W → List ℕ} {g : W → Type 0} {ends ends' : List ℕ → Type 0}
    {before mid after : Left} {w : W} → Passes text ends before mid → Reads u g ends' mid w after
    → ((y : W) (rest : List ℕ) → g y → ends' rest → ends (u y ++ rest))
    → Reads (λ y. text ++ u y) g ends' before w after
passes-then {text = text} {u = u} {w = w} one two next = record {
  sound = λ rest e.
      one.sound (u w ++ rest) (two.sound rest e) ∙ ap Some (sym (append_assoc text (u w) rest));
  finds = λ other rest fit ends e.
      two.finds other rest fit ends (one.finds (u other ++ rest) (next other rest fit ends)
      (e ∙ ap Some (append_assoc text (u other) rest)));
}

-- a value before a known text
pub then-passes : {V : Type 0} {t : V → List ℕ} {text : List ℕ} {f : V → Type 0} {ends ends' : List ℕ → Type 0}
    {before mid after : Left} {v : V} → Reads t f ends before v mid → Passes text ends' mid after
    → ((rest : List ℕ) → ends' rest → ends (text ++ rest))
    → Reads (λ y. t y ++ text) f ends' before v after
then-passes {t = t} {text = text} {v = v} one two next = record {
  sound = λ rest e.
      one.sound (text ++ rest) (two.sound rest e) ∙ ap Some (sym (append_assoc (t v) text rest));
  finds = λ other rest fit ends e.
      let first = one.finds other (text ++ rest) fit (next rest ends)
      (e ∙ ap Some (append_assoc (t other) text rest)) in
      (first.0, two.finds rest ends first.1);
}

-- what is made of a value that was read
pub reads-as : {V W : Type 0} {t : V → List ℕ} {f : V → Type 0} {ends : List ℕ → Type 0} {before after : Left} {v : V}
    (text : W → List ℕ) (fits : W → Type 0) (made : W) (parts : W → V) → Reads t f ends before v after
    → ((rest : List ℕ) → after ≡ Some rest → text made ≡ t v) → ((x : W) → fits x → f (parts x))
    → ((x : W) → fits x → text x ≡ t (parts x)) → ((x : W) → fits x → parts x ≡ v → x ≡ made)
    → Reads text fits ends before made after
reads-as {t = t} text fits made parts reads is fit same only = record {
  sound = λ rest e. reads.sound rest e ∙ ap (λ bytes. Some (bytes ++ rest)) (sym (is rest e));
  finds = λ other rest fits ends e.
      let there = e ∙ ap (λ bytes. Some (bytes ++ rest)) (same other fits) in
      let found = reads.finds (parts other) rest (fit other fits) ends there in
      (only other fits found.0, found.1);
}

-- fewer texts may follow
pub reads-before : {V : Type 0} {t : V → List ℕ} {f : V → Type 0} {ends : List ℕ → Type 0} {before after : Left} {v : V}
    (ends' : List ℕ → Type 0) → Reads t f ends before v after → ((rest : List ℕ) → ends' rest → ends rest)
    → Reads t f ends' before v after
reads-before ends' reads less = record {
  sound = reads.sound;
  finds = λ other rest fit ends e. reads.finds other rest fit (less rest ends) e;
}

-- nothing that fits can be made of it
pub reads-not : {V W : Type 0} {t : V → List ℕ} {f : V → Type 0} {ends : List ℕ → Type 0} {before mid : Left} {v : V}
    (text : W → List ℕ) (fits : W → Type 0) (made : W) (after : Left) (parts : W → V) → Reads t f ends before v mid
    → after ≡ None → ((x : W) → fits x → f (parts x)) → ((x : W) → fits x → text x ≡ t (parts x))
    → ((x : W) → fits x → parts x ≡ v → ⊥) → Reads text fits ends before made after
reads-not text fits made after parts reads none fit same other = record {
  sound = λ rest e. absurd (failed none e);
  finds = λ x rest fits ends e.
      let there = e ∙ ap (λ bytes. Some (bytes ++ rest)) (same x fits) in
      absurd (other x fits (reads.finds (parts x) rest (fit x fits) ends there).0);
}

-- a number behind a label
pub field-reads : {label : List ℕ} {before mid after : Left} {n : ℕ} (fits : ℕ → Type 0)
    → Passes label Anything before mid
    → Reads decimal (λ n. n < 10_000_000_000_000_000) EndsNumber mid n after
    → ((x : ℕ) → fits x → x < 10_000_000_000_000_000) → Reads (field label) fits EndsNumber before n after
unfolding field
field-reads {label = label} {n = n} fits one two few =
    let both = passes-then one two (λ y rest fit ends. tt) in record {
      sound = both.sound;
      finds = λ other rest fit ends e. both.finds other rest (few other fit) ends e;
    }

-- the items of a list that are read so far: their texts stood before what is left now, and any list whose texts stood
-- there goes on behind them
pub record ReadsSome {X : Type 0} (text : ℕ → X → List ℕ) (fits : X → Type 0) (whole : List X → Type 0)
    (follows : List ℕ → Type 0) (first : ℕ) (before : Left) (items : List X) (now : Left) : Type 0 where
  pub sound : (rest : List ℕ) → now ≡ Some rest → before ≡ Some (each_text text first items ++ rest)
  pub finds : (other : List X) (rest : List ℕ) → whole other → AllByRecursion fits other → follows rest
      → before ≡ Some (each_text text first other ++ rest)
      → (left : List X) × (other ≡ items ++ left) × AllByRecursion fits left
      × (now ≡ Some (each_text text (first + length items) left ++ rest))

-- none at the start
pub reads-none : {X : Type 0} {text : ℕ → X → List ℕ} {fits : X → Type 0} {whole : List X → Type 0}
    {follows : List ℕ → Type 0} {first : ℕ} {before : Left} {items : List X} → items ≡ []
    → ReadsSome text fits whole follows first before items before
unfolding each_text
reads-none {text = text} {first = first} {items = items} none = record {
  sound = λ rest e. e ∙ ap (λ items. Some (each_text text first items ++ rest)) (sym none);
  finds = λ other rest is all ends e.
      let same : first ≡ first + length items = omega (arith, ap length none) in
      (other, ap (λ items. items ++ other) (sym none), all, e ∙ ap (λ n. Some (each_text text n other ++ rest)) same);
}

-- the texts of a list with one more item
pub each_text-more : {X : Type 0} (text : ℕ → X → List ℕ) (first : ℕ) (xs : List X) (x : X)
    → each_text text first (xs ++ x ∷ []) ≡ each_text text first xs ++ text (first + length xs) x
unfolding each_text
each_text-more text first [] x =
    let same : first ≡ first + 0 = omega arith in append-nil (text first x) ∙ ap (λ n. text n x) same
each_text-more text first (y ∷ ys) x =
    let same : first + 1 + length ys ≡ first + suc (length ys) = omega arith in
    ap (λ more. text first y ++ more) (each_text-more text (first + 1) ys x
    ∙ ap (λ n. each_text text (first + 1) ys ++ text n x) same)
    ∙ sym (append_assoc (text first y) (each_text text (first + 1) ys) (text (first + suc (length ys)) x))

-- one more
pub reads-more : {X : Type 0} {text : ℕ → X → List ℕ} {fits : X → Type 0} {whole : List X → Type 0}
    {follows ends : List ℕ → Type 0} {first n : ℕ} {before mid after : Left} {items all : List X} {x : X}
    → ReadsSome text fits whole follows first before items mid → Reads (text n) fits ends mid x after
    → n ≡ first + length items → all ≡ items ++ x ∷ []
    → ((y : X) (left : List X) (rest : List ℕ) → whole (items ++ y ∷ left) → follows rest
    → ends (each_text text (n + 1) left ++ rest))
    → ((rest : List ℕ) → whole items → follows rest → mid ≡ Some rest → ⊥)
    → ReadsSome text fits whole follows first before all after
unfolding each_text
reads-more {X = X} {text = text} {fits = fits} {whole = whole} {follows = follows} {first = first} {n = n}
    {mid = mid} {after = after} {items = items} {all = all} {x = x} some one count pushed next goes = record {
      sound = λ rest e.
          some.sound (text n x ++ rest) (one.sound rest e)
          ∙ ap Some (sym (append_assoc (each_text text first items) (text n x) rest)
          ∙ ap (λ more. more ++ rest) (ap (λ n. each_text text first items ++ text n x) count
          ∙ sym (each_text-more text first items x) ∙ ap (each_text text first) (sym pushed)));
      finds = λ other rest is fit ends e.
          let found = some.finds other rest is fit ends e in
          by found.0 other rest found.1 found.2 (found.3 ∙ ap (λ n. Some (each_text text n found.0 ++ rest))
          (sym count)) is ends;
    }
  where
    by : (left other : List X) (rest : List ℕ) → other ≡ items ++ left → AllByRecursion fits left
        → mid ≡ Some (each_text text n left ++ rest) → whole other → follows rest
        → (left : List X) × (other ≡ all ++ left) × AllByRecursion fits left
        × (after ≡ Some (each_text text (first + length all) left ++ rest))
    by [] other rest is fit there of ends =
        absurd (goes rest (subst whole (is ∙ append-nil items) of) ends there)
    by (y ∷ ys) other rest is fit there of ends =
        let found = one.finds y (each_text text (n + 1) ys ++ rest) fit.0 (next y ys rest (subst whole is of) ends)
        (there ∙ ap Some (append_assoc (text n y) (each_text text (n + 1) ys) rest)) in
        let more : n + 1 ≡ first + length all = omega (arith, count, ap length pushed, length_push items x) in (
          ys,
          is ∙ ap (λ y. items ++ y ∷ ys) found.0 ∙ sym (append_assoc items (x ∷ []) ys)
              ∙ ap (λ items. items ++ ys) (sym pushed),
          fit.1,
          found.1 ∙ ap (λ n. Some (each_text text n ys ++ rest)) more,
        )

-- all
pub reads-whole : {X : Type 0} {text : ℕ → X → List ℕ} {fits : X → Type 0} {whole : List X → Type 0}
    {follows : List ℕ → Type 0} {first : ℕ} {before now : Left} {items : List X}
    → ReadsSome text fits whole follows first before items now
    → ((left : List X) (rest : List ℕ) → whole (items ++ left) → follows rest
    → now ≡ Some (each_text text (first + length items) left ++ rest) → left ≡ [])
    → Reads (each_text text first) (λ items. whole items × AllByRecursion fits items) follows before items now
unfolding each_text
reads-whole {text = text} {whole = whole} {first = first} {items = items} some done = record {
  sound = some.sound;
  finds = λ other rest fit ends e.
      let found = some.finds other rest fit.0 fit.1 ends e in
      let none = done found.0 rest (subst whole found.1 fit.0) ends found.3 in (
        found.1 ∙ ap (λ left. items ++ left) none ∙ append-nil items,
        found.3 ∙ ap (λ left. Some (each_text text (first + length items) left ++ rest)) none,
      );
}
