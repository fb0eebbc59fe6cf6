-- The reading of what became of an order's lines.
use Rattle.std.proofs.Common.{◌≡◌, ℕ, ◌+◌, ◌<◌, ◌∙◌, ◌==◌, Bool, true, false, true≢false, cond, List, [], ◌∷◌, ◌++◌, length, count_by, codes, None, refl, sym, ap, arith}
use Rattle.std.proofs.lemmas.Bool.Decides.{Decides-eqb}
use Rattle.std.proofs.lemmas.List.{nil_from_length}
use Rattle.std.proofs.lemmas.List.Sums.{count_by-le-length}
use Rattle.std.specs.List.{AllByRecursion}
use Rattle.query_report.specs.declared.reply.DropLine.{DropLine}
use Rattle.query_report.specs.Field.{field, each_text}
use Rattle.query_report.specs.Reading.{Left, Reads, EndsNumber, IsNumber}
use Rattle.query_report.specs.Reply.{is_deleted, numbered_text, drops_text, drop_reply}
use Rattle.query_report.specs.Report.{IsDropLine}
use Rattle.query_report.proofs.Reading.{ReadsSome, reads-is, reads-and, reads-as, reads-not, reads-none, reads-more, reads-whole}

abbrev pub IsDrop : List DropLine → Type 0
IsDrop lines = (length lines ≡ 7) × AllByRecursion IsDropLine lines

-- the number of lines that were deleted, and the lines
pub drop-reads : {before mid now after : Left} {deleted : ℕ} {lines : List DropLine} (count : ℕ)
    → Reads (field (codes "drop deleted=")) IsNumber EndsNumber before deleted mid
    → Reads (drops_text 49) IsDrop EndsNumber mid lines now
    → count ≡ count_by is_deleted lines → after ≡ cond (deleted == count) now None
    → Reads drop_reply IsDrop EndsNumber before lines after
unfolding each_text
drop-reads {before = before} {now = now} {after = after} {deleted = deleted}
    {lines = lines} count head seven counts is =
    by (deleted == count_by is_deleted lines) refl (is ∙ ap (λ count. cond (deleted == count) now None) counts)
  where
    raw : Reads (λ (p : ℕ × List DropLine). field (codes "drop deleted=") p.0 ++ drops_text 49 p.1)
        (λ p. IsNumber p.0 × IsDrop p.1) EndsNumber before (deleted, lines) now
    raw = reads-and head seven next
      where
        next : (lines : List DropLine) (rest : List ℕ) → IsDrop lines → EndsNumber rest → EndsNumber
            (drops_text 49 lines ++ rest)
        next [] rest fits ends = absurd (omega (arith, fits.0))
        next (line ∷ lines) rest fits ends = refl

    fit : (lines : List DropLine) → IsDrop lines → IsNumber (count_by is_deleted lines) × IsDrop lines
    fit lines fits = (omega (arith, fits.0, count_by-le-length is_deleted lines), fits)

    by : (same : Bool) → (deleted == count_by is_deleted lines) ≡ same → after ≡ cond same now None
        → Reads drop_reply IsDrop EndsNumber before lines after
    by true same is =
        let count = (Decides-eqb deleted (count_by is_deleted lines)).0 same in
        reads-is _ _ _ (reads-as drop_reply IsDrop lines (λ lines. (count_by is_deleted lines, lines)) raw
        (λ rest e. ap (λ n. field (codes "drop deleted=") n ++ drops_text 49 lines) (sym count)) fit
        (λ lines fits. refl)
        (λ lines fits e. ap (λ p. p.1) e)) refl refl (sym is)
    by false same is =
        reads-not drop_reply IsDrop lines after (λ lines. (count_by is_deleted lines, lines)) raw is fit
        (λ lines fits. refl) (λ other fits e.
        let lines_same = ap (λ p. p.1) e in
        let count : deleted ≡ count_by is_deleted lines =
        sym (ap (λ p. p.0) e) ∙ ap (count_by is_deleted) lines_same in
        true≢false (sym ((Decides-eqb deleted (count_by is_deleted lines)).1 count) ∙ same))

-- lines may follow a number
drops_end : (digit : ℕ) (lines : List DropLine) (rest : List ℕ) → EndsNumber rest
    → EndsNumber (drops_text digit lines ++ rest)
unfolding each_text
drops_end digit [] rest ends = ends
drops_end digit (line ∷ lines) rest ends = refl

-- one more line of the seven
more : {before mid after : Left} {lines : List DropLine} {line : DropLine} (n : ℕ)
    → ReadsSome numbered_text IsDropLine (λ lines. length lines ≡ 7) EndsNumber 49 before lines mid
    → Reads (numbered_text n) IsDropLine EndsNumber mid line after → n ≡ 49 + length lines → length lines < 7
    → ReadsSome numbered_text IsDropLine (λ lines. length lines ≡ 7) EndsNumber 49 before (lines ++ line ∷ []) after
more n some one count few =
    reads-more some one count refl (λ line left rest whole ends. drops_end (n + 1) left rest ends)
    (λ rest whole ends e. omega arith)

-- the lines one behind another
pub drop_lines-read : {s t u v w x y z : Left} {a b c d e f g : DropLine}
    → Reads (numbered_text 49) IsDropLine EndsNumber s a t → Reads (numbered_text 50) IsDropLine EndsNumber t b u
    → Reads (numbered_text 51) IsDropLine EndsNumber u c v → Reads (numbered_text 52) IsDropLine EndsNumber v d w
    → Reads (numbered_text 53) IsDropLine EndsNumber w e x → Reads (numbered_text 54) IsDropLine EndsNumber x f y
    → Reads (numbered_text 55) IsDropLine EndsNumber y g z
    → Reads (drops_text 49) IsDrop EndsNumber s (a ∷ b ∷ c ∷ d ∷ e ∷ f ∷ g ∷ []) z
drop_lines-read one two three four five six seven =
    let none : ReadsSome numbered_text IsDropLine (λ lines. length lines ≡ 7) EndsNumber 49 _ [] _ = reads-none refl in
    let a = more 49 none one refl (omega arith) in
    let b = more 50 a two refl (omega arith) in
    let c = more 51 b three refl (omega arith) in
    let d = more 52 c four refl (omega arith) in
    let e = more 53 d five refl (omega arith) in
    let f = more 54 e six refl (omega arith) in
    let lines = more 55 f seven refl (omega arith) in
    reads-whole lines (λ left rest whole ends e. nil_from_length left (omega (arith, whole)))
