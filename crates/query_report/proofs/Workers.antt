-- The reading of the lines of workers.
use Rattle.std.proofs.Common.{◌≡◌, inl, inr, ℕ, suc, ◌+◌, ◌-◌, ◌<◌, ◌≤◌, ◌∙◌, true, false, true≢false, List, [], ◌∷◌, ◌++◌, length, codes, decimal, Some, refl, sym, ap, append_assoc, arith, ne_eqb}
use Rattle.std.proofs.lemmas.Bool.Decides.{Decides-eqb}
use Rattle.cubit_base.specs.declared.delta.Delta.{Delta}
use Rattle.query_report.specs.declared.reply.Reply.{Reply}
use Rattle.query_report.specs.Field.{field, two_fields, each_text}
use Rattle.query_report.specs.Journal.{journal_bytes}
use Rattle.query_report.specs.Reading.{Left, Reads, Passes, Anything, EndsNumber, EndsReplies, EndsWorker, IsAtWorker, begins}
use Rattle.query_report.specs.Reply.{reply_bytes, reply_line}
use Rattle.query_report.specs.ReplyTable.{EndsInReply}
use Rattle.query_report.specs.Report.{IsReply, IsReplyTable, IsJournal, IsReport, worker_lines, reply_lines, report_bytes}
use Rattle.query_report.proofs.Reading.{reads-and, passes-then, then-passes, reads-as}

-- a line of a worker begins with its number
line_begins : (worker number : ℕ) (reply : Reply) (rest : List ℕ)
    → (more : List ℕ) × (reply_line worker number reply ++ rest ≡ field (codes "w") worker ++ 32 ∷ more)
unfolding reply_line two_fields field
line_begins worker number reply rest =
    let w = field (codes "w") worker in
    let k = field (codes " ") number in
    let end = codes " " ++ (reply_bytes reply ++ codes "\n") in
    (decimal number ++ (end ++ rest), append_assoc (w ++ k) end rest ∙ append_assoc w k (end ++ rest))

-- no line of a worker stands where those of later workers do
pub later_ends : (worker n : ℕ) (lists : List (List Reply)) (rest : List ℕ) → worker < n → n + length lists ≤ 256
    → EndsReplies rest → EndsWorker worker (reply_lines n lists ++ rest)
unfolding each_text
later_ends worker n [] rest later few ends = inl ends
later_ends worker n ([] ∷ lists) rest later few ends =
    later_ends worker (n + 1) lists rest (omega arith) (omega arith) ends
later_ends worker n ((reply ∷ replies) ∷ lists) rest later few ends =
    let first = reply_line n 1 reply in
    let others = worker_lines n 2 replies in
    let after = reply_lines (n + 1) lists in
    let more = others ++ (after ++ rest) in
    let text = append_assoc (first ++ others) after rest ∙ append_assoc first others (after ++ rest) in
    let line = line_begins n 1 reply more in
    inr (n, line.0, omega arith, (λ same. omega arith), text ∙ line.1)

-- the line of a worker's reply with a number
pub line-reads : {r s t u v w : Left} {reply : Reply} (worker number : ℕ)
    → Passes (field (codes "w") worker) EndsNumber r s → Passes (field (codes " ") number) EndsNumber s t
    → Passes (codes " ") Anything t u → Reads reply_bytes IsReply EndsNumber u reply v → Passes
    (codes "\n") Anything v w
    → Reads (reply_line worker number) IsReply Anything r reply w
unfolding reply_line two_fields field
line-reads {reply = reply} worker number one two three reads end =
    let raw = passes-then one (passes-then two (passes-then three (then-passes reads end (λ rest ends. refl))
    (λ x rest fit ends. tt)) (λ x rest fit ends. refl)) (λ x rest fit ends. refl) in
    reads-as _ _ _ (λ (reply : Reply). reply) raw (λ rest e. text reply) (λ x fits. fits) (λ x fits. text x)
    (λ x fits e. e)
  where
    text : (x : Reply) → reply_line worker number x
        ≡ field (codes "w") worker ++ (field (codes " ") number ++ (codes " " ++ (reply_bytes x ++ codes "\n")))
    text x = append_assoc (field (codes "w") worker) (field (codes " ") number) (codes " " ++
        (reply_bytes x ++ codes "\n"))

-- a look at the front says where the lines of a worker end
pub worker_done : (worker n : ℕ) (left : List Reply) (rest : List ℕ) (now : Left) → worker < 256
    → IsAtWorker worker now false → now ≡ Some (worker_lines worker n left ++ rest) → left ≡ []
unfolding each_text
worker_done worker n [] rest now few look there = refl
worker_done worker n (reply ∷ left) rest now few look there =
    let more = worker_lines worker (n + 1) left ++ rest in
    let line = line_begins worker n reply more in
    let text = there ∙ ap Some (append_assoc (reply_line worker n reply) (worker_lines worker (n + 1) left) rest
    ∙ line.1) in
    absurd (true≢false (sym (look.line worker (32 ∷ line.0) (omega arith) refl text
    ∙ (Decides-eqb worker worker).1 refl)))

-- and where one stands
pub worker_goes : (worker : ℕ) (rest : List ℕ) (now : Left) → IsAtWorker worker now true → EndsWorker worker rest
    → now ≡ Some rest → ⊥
worker_goes worker rest now look (inl none) there =
    true≢false (look.none (ap (begins 119) there ∙ none))
worker_goes worker rest now look (inr line) there =
    true≢false (look.line line.0 (32 ∷ line.1) line.2 refl (there ∙ ap Some line.4) ∙ ne_eqb line.0 worker line.3)

-- the last of more lists is the last of all
tail_ends : (first list : List Reply) (lists : List (List Reply)) → EndsInReply (first ∷ list ∷ lists)
    → EndsInReply (list ∷ lists)
tail_ends first list lists ends some =
    let same : length (first ∷ list ∷ lists) - 1 ≡ suc (length (list ∷ lists) - 1) = omega arith in
    rw same at (ends (omega arith))

left_ends : (front : List (List Reply)) (list : List Reply) (lists : List (List Reply))
    → EndsInReply (front ++ list ∷ lists) → EndsInReply (list ∷ lists)
left_ends [] list lists ends = ends
left_ends (first ∷ []) list lists ends = tail_ends first list lists ends
left_ends (first ∷ next ∷ front) list lists ends =
    left_ends (next ∷ front) list lists (tail_ends first next (front ++ list ∷ lists) ends)

-- where the last list has a reply, a line stands at the front
lines_begin : (n : ℕ) (lists : List (List Reply)) (rest : List ℕ) → 0 < length lists → EndsInReply lists
    → begins 119 (Some (reply_lines n lists ++ rest)) ≡ true
unfolding each_text field
lines_begin n [] rest some ends = absurd (omega arith)
lines_begin n ((reply ∷ replies) ∷ lists) rest some ends =
    let first = reply_line n 1 reply in
    let others = worker_lines n 2 replies in
    let after = reply_lines (n + 1) lists in
    let line = line_begins n 1 reply (others ++ (after ++ rest)) in
    let text = append_assoc (first ++ others) after rest ∙ append_assoc first others (after ++ rest) in
    ap (λ bytes. begins 119 (Some bytes)) (text ∙ line.1)
lines_begin n ([] ∷ []) rest some ends = absurd (omega (arith, ends some))
lines_begin n ([] ∷ list ∷ lists) rest some ends =
    lines_begin (n + 1) (list ∷ lists) rest (omega arith) (tail_ends [] list lists ends)

-- a look at the front says where the lists end
pub lists_done : (n : ℕ) (front left : List (List Reply)) (rest : List ℕ) (now : Left) → EndsInReply (front ++ left)
    → begins 119 now ≡ false → now ≡ Some (reply_lines n left ++ rest) → left ≡ []
lists_done n front [] rest now ends look there = refl
lists_done n front (list ∷ lists) rest now ends look there =
    absurd (true≢false (sym (lines_begin n (list ∷ lists) rest (omega arith) (left_ends front list lists ends))
    ∙ ap (begins 119) (sym there) ∙ look))

pub lists_go : (rest : List ℕ) (now : Left) → begins 119 now ≡ true → EndsReplies rest → now ≡ Some rest → ⊥
lists_go rest now look ends there = true≢false (sym look ∙ ap (begins 119) there ∙ ends)

-- the replies, and then the journal
pub report-reads : {before mid after : Left} {replies : List (List Reply)} {journal : List Delta}
    → Reads (reply_lines 0) IsReplyTable EndsReplies before replies mid
    → Reads journal_bytes IsJournal Anything mid journal after
    → Reads (λ (report : List (List Reply) × List Delta). report_bytes report.0 report.1)
    (λ report. IsReport report.0 report.1) Anything before (replies, journal) after
unfolding report_bytes field
report-reads one two = reads-and one two (λ journal rest fits ends. refl)
