-- A log of one worker alone.
use Rattle.std.proofs.Common.{◌≡◌, ℕ, zero, suc, ◌+◌, ◌≤◌, ◌<◌, ◌==◌, Bool, true, false, List, [], ◌∷◌, ◌++◌, length, map, filter, All, refl, sym, ap, ◌∙◌, subst, arith, length-append, get_or}
use Rattle.std.specs.List.{enumerate_from, slice_index_or}
use Rattle.std.proofs.lemmas.Bool.{cond-true}
use Rattle.std.proofs.lemmas.List.{append-nil, get_or_append_left}
use Rattle.cubit_base.specs.declared.delta.Delta.{Delta}
use Rattle.commit_log.specs.Growing.{begins-length}
use Rattle.commit_log.specs.Handle.{Handle, Begins, Grows, mine}
use Rattle.cubit_session.specs.Run.{Mark}
use Rattle.cubit_session.specs.Step.{AddsTo}

-- all deltas that it has seen are its own
abbrev pub OwnsAll : Handle → Type 0
OwnsAll handle = All (λ d. d.author ≡ handle.author) handle.seen

all-from : (n w : ℕ) (log : List Delta) →
    ((k : ℕ) (d : Delta) → k < length log → (slice_index_or log k d).author ≡ w) →
    length (filter (λ p. p.1.author == w) (enumerate_from n log)) ≡ length log
all-from n w [] own = refl
all-from n w (d ∷ log) own =
    let is : (d.author == w) ≡ true = subst (λ a. (a == w) ≡ true) (sym (own 0 d (omega arith))) (grind arith) in
    ap (λ (l : List (ℕ × Delta)). length l)
    (cond-true {A = List (ℕ × Delta)} (d.author == w)
    ((n, d) ∷ filter (λ p. p.1.author == w) (enumerate_from (n + 1) log))
    (filter (λ p. p.1.author == w) (enumerate_from (n + 1) log)) is)
    ∙ ap suc (all-from (n + 1) w log (λ k e within. own (suc k) e (omega (arith, within))))

length-map' : (l : List (ℕ × Delta)) → length (map (λ p. p.0) l) ≡ length l
length-map' [] = refl
length-map' (x ∷ l) = ap suc (length-map' l)

-- all of its entries are its own
mine-all : (handle : Handle) → OwnsAll handle → length (mine handle) ≡ length handle.seen
mine-all handle own =
    length-map' (filter (λ p. p.1.author == handle.author) (enumerate_from 0 handle.seen))
    ∙ all-from 0 handle.author handle.seen own

pub owns-before : (a b : Handle) → Grows a b → OwnsAll b → OwnsAll a
owns-before a b grows own = λ k d within.
    let long = begins-length a.seen b.seen grows.begins in
    sym (ap (λ (e : Delta). e.author) (ap (λ (l : List Delta). get_or l k d) grows.begins.1
    ∙ get_or_append_left a.seen grows.begins.0 d k within))
    ∙ own k d (omega (arith, within, long)) ∙ grows.author

pub length-now : (a b : Handle) (marks : List Mark) (places : List ℕ) → AddsTo a b marks places → OwnsAll b →
    length b.seen ≡ length a.seen + length places
length-now a b marks places adds own =
    sym (mine-all b own) ∙ ap (λ (l : List ℕ). length l) adds.places_are ∙ length-append (mine a) places
    ∙ ap (λ n. n + length places) (mine-all a (owns-before a b adds.grows own))

-- a log that is no longer than a part of it is that part
begins-same : (log longer : List Delta) → Begins log longer → length longer ≤ length log → longer ≡ log
begins-same log longer ([], is) short = is ∙ append-nil log
begins-same log longer ((d ∷ rest), is) short =
    let long = ap (λ (l : List Delta). length l) is ∙ length-append log (d ∷ rest) in
    absurd (omega (arith, long, short))

pub same-seen : (a b : Handle) (marks : List Mark) → AddsTo a b marks [] → OwnsAll b → b.seen ≡ a.seen
same-seen a b marks adds own =
    let long = length-now a b marks [] adds own in
    begins-same a.seen b.seen adds.grows.begins (omega (arith, long))
