-- The deltas of other authors that a handle has seen since.
use Rattle.std.proofs.Common.{◌≡◌, ℕ, suc, ◌+◌, ◌≤◌, ◌==◌, Bool, true, false, not, cond, List, [], ◌∷◌, ◌++◌, length, map, filter, drop, sym, refl, ap, ◌∙◌, subst, arith, length-append}
use Rattle.std.specs.List.{enumerate_from}
use Rattle.std.proofs.Math.Seq.{drop-append_seam}
use Rattle.std.proofs.lemmas.List.{length-map, append_assoc}
use Rattle.std.proofs.lemmas.List.Elements.{filter-append}
use Rattle.std.proofs.lemmas.List.Filters.{length-filter_both}
use Rattle.cubit_base.specs.declared.delta.Delta.{Delta}
use Rattle.commit_log.specs.Handle.{Handle, Begins, Grows, ReadsOn, places_by, mine, others}

abbrev is_own : ℕ → Delta → Bool
is_own author d = d.author == author

abbrev is_other : ℕ → Delta → Bool
is_other author d = not (d.author == author)

one-more : (own : Bool) (n : ℕ) (d : Delta) (placed : List (ℕ × Delta)) (deltas : List Delta) →
    length placed ≡ length deltas →
    length (cond own ((n, d) ∷ placed) placed) ≡ length (cond own (d ∷ deltas) deltas)
one-more true n d placed deltas e = ap suc e
one-more false n d placed deltas e = e

count-places : (author n : ℕ) (log : List Delta) →
    length (filter (λ p. p.1.author == author) (enumerate_from n log)) ≡ length (filter (is_own author) log)
count-places author n [] = refl
count-places author n (d ∷ log) =
    one-more (d.author == author) n d (filter (λ p. p.1.author == author) (enumerate_from (n + 1) log))
    (filter (is_own author) log) (count-places author (n + 1) log)

count-mine : (author : ℕ) (log : List Delta) → length (places_by author log) ≡ length (filter (is_own author) log)
count-mine author log =
    length-map (filter (λ p. p.1.author == author) (enumerate_from 0 log)) (λ p. p.0) ∙ count-places author 0 log

-- what was seen since, where none of it is of the author
all-others : (author : ℕ) (log rest : List Delta) → places_by author (log ++ rest) ≡ places_by author log →
    length (filter (is_other author) rest) ≡ length rest
all-others author log rest same =
    let parts = ap (λ (l : List Delta). length l) (filter-append (is_own author) log rest)
    ∙ length-append (filter (is_own author) log) (filter (is_own author) rest) in
    let counts = sym (count-mine author (log ++ rest)) ∙ ap (λ (l : List ℕ). length l) same ∙ count-mine author log in
    let both = length-filter_both (is_own author) (is_other author) (λ d. refl) rest in
    omega (arith, parts, counts, both)

others-since : (handle later : Handle) (rest : List Delta) → later.seen ≡ handle.seen ++ rest →
    others handle later ≡ length (filter (is_other handle.author) rest)
others-since handle later rest is =
    ap (λ (l : List Delta). length (filter (is_other handle.author) (drop (length handle.seen) l))) is
    ∙ ap (λ (l : List Delta). length (filter (is_other handle.author) l)) (drop-append_seam handle.seen rest)

pub others-read : (handle later : Handle) → ReadsOn handle later →
    length later.seen ≡ length handle.seen + others handle later
others-read handle later reads =
    let rest = reads.begins.0 in
    let author : later.author ≡ handle.author = ap (λ (h : Handle). h.author) reads.is in
    let same = ap (places_by handle.author) (sym reads.begins.1)
    ∙ ap (λ a. places_by a later.seen) (sym author) ∙ reads.mine in
    let long = ap (λ (l : List Delta). length l) reads.begins.1 ∙ length-append handle.seen rest in
    let all = all-others handle.author handle.seen rest same in
    let since = others-since handle later rest reads.begins.1 in
    omega (arith, long, all, since)

-- more that is seen may have more of them
pub others-earlier : (handle read later : Handle) → Grows handle read → Grows read later →
    others handle read ≤ others handle later
others-earlier handle read later first then =
    let other = is_other handle.author in
    let is = then.begins.1 ∙ ap (λ (l : List Delta). l ++ then.begins.0) first.begins.1 in
    let joined = is ∙ append_assoc handle.seen first.begins.0 then.begins.0 in
    let parts = ap (λ (l : List Delta). length l) (filter-append other first.begins.0 then.begins.0)
    ∙ length-append (filter other first.begins.0) (filter other then.begins.0) in
    let before = others-since handle read first.begins.0 first.begins.1 in
    let now = others-since handle later (first.begins.0 ++ then.begins.0) joined in
    omega (arith, parts, before, now)

-- from later on there are no more of them
pub others-later : (handle read later : Handle) → Grows handle read → Grows read later →
    others read later ≤ others handle later
others-later handle read later first then =
    let other = is_other handle.author in
    let rest = first.begins.0 in
    let more = then.begins.0 in
    let joined = then.begins.1 ∙ ap (λ (l : List Delta). l ++ more) first.begins.1
    ∙ append_assoc handle.seen rest more in
    let parts = ap (λ (l : List Delta). length l) (filter-append other rest more)
    ∙ length-append (filter other rest) (filter other more) in
    let before = others-since read later more then.begins.1
    ∙ ap (λ author. length (filter (is_other author) more)) first.author in
    let now = others-since handle later (rest ++ more) joined in
    omega (arith, parts, before, now)
