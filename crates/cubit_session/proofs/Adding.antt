-- What a reply adds to what a worker knows.
use Rattle.std.proofs.Common.{◌≡◌, ℕ, List, [], ◌∷◌, ◌++◌, length, sym, refl, ap, ◌∙◌, arith, length-append}
use Rattle.std.proofs.lemmas.List.{append_assoc, append-nil}
use Rattle.cubit_base.specs.Change.{Change}
use Rattle.cubit_base.specs.declared.delta.Delta.{Delta}
use Rattle.commit_log.specs.Growing.{begins-length}
use Rattle.commit_log.specs.Log.{Terms}
use Rattle.commit_log.specs.Handle.{Handle, Begins, Grows, ReadsOn, with_look, mine}
use Rattle.table_ops.specs.declared.outcome.Placed.{Placed}
use Rattle.table_ops.specs.declared.outcome.OpStop.{OpStop}
use Rattle.table_ops.specs.Changed.{IsPlaced, IsStopped, stop_front}
use Rattle.cubit_session.specs.Run.{Mark, NeverFall, mark_behind, mark_at}
use Rattle.cubit_session.specs.Step.{AddsTo}

begins-on : (log longer last : List Delta) → Begins log longer → Begins longer last → Begins log last
begins-on log longer last first then =
    (first.0 ++ then.0, then.1 ∙ ap (λ (l : List Delta). l ++ then.0) first.1 ∙ append_assoc log first.0 then.0)

-- marks up to one length, and from there on
falls-on : (known middle last : ℕ) (marks more : List Mark) → NeverFall known marks middle →
    NeverFall middle more last → NeverFall known (marks ++ more) last
falls-on known middle last [] [] first then = omega (arith, first, then)
falls-on known middle last [] (next ∷ more) first then = (omega (arith, first, then.0), then.1)
falls-on known middle last (next ∷ marks) more first then =
    (first.0, falls-on next.mark middle last marks more first.1 then)

pub adds-on : (a b c : Handle) (marks more : List Mark) (places later : List ℕ) → AddsTo a b marks places →
    AddsTo b c more later → AddsTo a c (marks ++ more) (places ++ later)
adds-on a b c marks more places later first then = record {
  grows = record {
    begins = begins-on a.seen b.seen c.seen first.grows.begins then.grows.begins;
    author = then.grows.author ∙ first.grows.author;
  };
  never_fall = falls-on (length a.seen) (length b.seen) (length c.seen) marks more first.never_fall then.never_fall;
  places_are = then.places_are ∙ ap (λ (l : List ℕ). l ++ later) first.places_are
      ∙ append_assoc (mine a) places later;
}

pub adds-none : (a : Handle) → AddsTo a a [] []
adds-none a = record {
  grows = record { begins = ([], sym (append-nil a.seen)); author = refl };
  never_fall = omega arith;
  places_are = sym (append-nil (mine a));
}

-- a front of all that was seen, where nothing was appended
pub adds-front : (a b : Handle) (front : ℕ) → Grows a b → mine b ≡ mine a → front ≡ length b.seen →
    AddsTo a b (mark_at front ∷ []) []
adds-front a b front grows same is =
    let long = begins-length a.seen b.seen grows.begins in record {
      grows = grows;
      never_fall = (omega (arith, long, is), omega (arith, is));
      places_are = same ∙ sym (append-nil (mine a));
    }

-- nothing is told of what was seen
pub adds-nothing : (a b : Handle) → Grows a b → mine b ≡ mine a → AddsTo a b [] []
adds-nothing a b grows same =
    let long = begins-length a.seen b.seen grows.begins in record {
      grows = grows;
      never_fall = long;
      places_are = same ∙ sym (append-nil (mine a));
    }

pub reads-grow : (a b : Handle) → ReadsOn (with_look a) b → Grows a b
reads-grow a b reads = record { begins = reads.begins; author = ap (λ (h : Handle). h.author) reads.is }

-- a change that was made
pub adds-placed : (terms : Terms) (a b : Handle) (change : Change) (placed : Placed) →
    IsPlaced terms (with_look a) change b placed → AddsTo a b (mark_behind placed.place ∷ []) (placed.place ∷ [])
adds-placed terms a b change placed is =
    let grows = reads-grow a is.read is.reads in
    let long = begins-length a.seen is.read.seen grows.begins in
    let seen = ap (λ (h : Handle). h.seen) is.appended.is in
    let longer = ap (λ (l : List Delta). length l) seen ∙ length-append is.read.seen (is.delta ∷ []) in record {
      grows = record {
        begins = begins-on a.seen is.read.seen b.seen grows.begins (is.delta ∷ [], seen);
        author = ap (λ (h : Handle). h.author) is.appended.is ∙ grows.author;
      };
      never_fall = (omega (arith, long, is.place), omega (arith, longer, is.place));
      places_are = is.appended.mine ∙ ap (λ (l : List ℕ). l ++ is.at.len ∷ []) is.reads.mine
          ∙ ap (λ n. mine a ++ n ∷ []) (is.appended.last ∙ sym is.place);
    }

pub adds-stopped : (terms : Terms) (a b : Handle) (change : Change) (stop : OpStop) →
    IsStopped terms (with_look a) change b stop → AddsTo a b (mark_at (stop_front stop).len ∷ []) []
adds-stopped terms a b change stop is =
    adds-front a b (stop_front stop).len (reads-grow a b is.reads) is.reads.mine is.whole.whole
