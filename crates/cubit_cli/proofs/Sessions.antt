-- Sessions of one script.
use Rattle.std.proofs.Common.{◌≡◌, ℕ, ◌+◌, ◌-◌, ◌∙◌, List, [], ◌∷◌, ◌++◌, length, length-append, take, Some, refl, sym, ap, subst, arith}
use Rattle.std.specs.Prelude.{sum_by, slice_get}
use Rattle.std.specs.List.{AllZip}
use Rattle.std.proofs.lemmas.List.{take_more}
use Rattle.std.proofs.lemmas.List.Sums.{sum_by-append}
use Rattle.std.proofs.lemmas.Option.{slice_get_within, get_or_from_slice_get}
use Rattle.std.proofs.lemmas.Slice.Zip.{AllZip-long}
use Rattle.cubit_base.specs.Answer.{answer}
use Rattle.cubit_base.specs.Table.{Row}
use Rattle.cubit_base.specs.declared.command.Command.{Command}
use Rattle.cubit_base.specs.declared.command.Command.TheVariants as command
use Rattle.cubit_base.specs.declared.delta.Delta.{Delta}
use Rattle.cubit_base.specs.declared.entry.Limits.{Limits}
use Rattle.cubit_base.specs.declared.predicate.Predicate.{Predicate}
use Rattle.query_report.specs.Drill.{drill_text}
use Rattle.query_report.specs.ReplyTable.{replies_of}
use Rattle.query_report.specs.declared.reply.Reply.{Reply}
use Rattle.query_report.specs.declared.reply.Reply.TheVariants as reply
use Rattle.refresh_streams.specs.Generator.{made}
use Rattle.cubit_session.specs.Run.{table_at}
use Rattle.cubit_cli.specs.Reply.{rows_added, setting, IsSession, EndsInSum, IsDrilled, IsDrillText}
use Rattle.cubit_cli.specs.Words.{DrillValue, default_limits}

-- the last of two lists that go together
AllZip-last : {A B : Type 0} (R : A → B → Type 0) (xs : List A) (x : A) (ys : List B) → AllZip R (xs ++ x ∷ []) ys
    → (y : B) × (slice_get ys (length xs) ≡ Some y) × R x y
AllZip-last R [] x [] zip = absurd zip
AllZip-last R [] x (y ∷ []) zip = (y, refl, zip.0)
AllZip-last R [] x (y ∷ z ∷ zs) zip = absurd zip.1
AllZip-last R (a ∷ xs) x [] zip = absurd zip
AllZip-last R (a ∷ xs) x (y ∷ ys) zip = AllZip-last R xs x ys zip.1

-- a session whose last command is a sum ends in a sum
pub IsSession-sum : (limits : Limits) (table : List Row) (commands : List Command) (p : Predicate)
    (replies : List (List Reply)) (journal : List Delta)
    → IsSession limits table (commands ++ command.Sum p ∷ []) replies journal → EndsInSum replies
IsSession-sum limits table commands p replies journal session =
    let s = setting limits table (commands ++ command.Sum p ∷ []) in
    let part = session.run.parts 0 in
    let found = AllZip-last _ commands (command.Sum p) (replies_of replies 0) part.answers in
    let long = AllZip-long _ (commands ++ command.Sum p ∷ []) (replies_of replies 0) part.answers in
    let place : length (replies_of replies 0) - 1 ≡ length commands =
    omega (arith, long, length-append commands (command.Sum p ∷ [])) in
    let told = found.2 in
    let a = answer (table_at s journal told.0) p in
    record {
      front = told.0;
      count = a.count;
      sum = a.sum;
      patched = told.1;
      last = ap (slice_get (replies_of replies 0)) place ∙ found.1 ∙ ap Some (sym told.4);
    }

-- one command more
pub rows-next : (commands : List Command) (n : ℕ) (c : Command) → slice_get commands n ≡ Some c
    → sum_by rows_added (take (n + 1) commands) ≡ sum_by rows_added (take n commands) + rows_added c
rows-next commands n c is =
    let next = take_more commands n c (slice_get_within commands n c is)
    ∙ ap (λ d. take n commands ++ d ∷ []) (get_or_from_slice_get commands n c c is) in
    let parts = ap (sum_by rows_added) next ∙ sum_by-append rows_added (take n commands) (c ∷ []) in
    omega (arith, parts)

-- the lines of a drill
pub IsDrillText-made : (d : DrillValue) (table : List Row) (commands : List Command) (limits : Limits)
    (replies : List (List Reply)) (journal : List Delta) (base deltas front count sum patched : ℕ) (text : List ℕ)
    → (table, commands) ≡ (made d.orders d.seed).0 → limits ≡ default_limits
    → IsSession limits table commands replies journal
    → slice_get (replies_of replies 0) (length (replies_of replies 0) - 1) ≡ Some (reply.Sum front count sum patched)
    → base ≡ length table → deltas ≡ length journal
    → text ≡ drill_text (record {
      seed = d.seed;
      orders = d.orders;
      base = base;
      journal = deltas;
      front = front;
      count = count;
      sum = sum;
    })
    → IsDrillText d text
IsDrillText-made d table commands limits replies journal base deltas front count sum patched text is by session last
    rows places told =
    let lines : ℕ → ℕ → List ℕ = λ b j. drill_text (record {
      seed = d.seed;
      orders = d.orders;
      base = b;
      journal = j;
      front = front;
      count = count;
      sum = sum;
    }) in
    let drilled : IsDrilled d table commands text = record {
      replies = replies;
      journal = journal;
      session = subst (λ (l : Limits). IsSession l table commands replies journal) by session;
      ends = record { front = front; count = count; sum = sum; patched = patched; last = last };
      text_is = told ∙ ap (λ b. lines b deltas) rows ∙ ap (λ j. lines (length table) j) places;
    } in
    subst (λ (m : List Row × List Command). IsDrilled d m.0 m.1 text) is drilled
