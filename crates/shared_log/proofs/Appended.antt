-- What a try to append tells as a handle of the log.
use Rattle.std.proofs.Common.{◌≡◌, ◌≢◌, ℕ, ◌+◌, ◌-◌, ◌<◌, List, [], ◌∷◌, ◌++◌, length, take, sym, refl, ap, ◌∙◌, None, Some, arith, length-append}
use Rattle.std.proofs.lemmas.List.{take_all}
use Rattle.cubit_base.specs.History.{rows_after}
use Rattle.cubit_base.specs.declared.delta.Delta.{Delta}
use Rattle.cubit_base.specs.declared.entry.Entry.{Entry}
use Rattle.log_core.specs.Terms.{CoreTerms, share}
use Rattle.commit_log.specs.Log.{Stands, IsWhole}
use Rattle.commit_log.specs.Handle.{Handle, places_by, Appended, IsLate}
use Rattle.commit_log.specs.declared.front.Front.{Front}
use Rattle.shared_log.specs.Fronts.{IsFront, node_in}
use Rattle.shared_log.specs.Steps.{Knows}
use Rattle.shared_log.specs.Told.{shared_terms, KnowsLog}
use Rattle.shared_log.specs.Calls.{pass_handle, front_steps, TakesFront}
use Rattle.shared_log.specs.Appends.{IsEntryBehind, TakesSteps, LinksDelta, IsBehind}
use Rattle.shared_log.specs.declared.views.PassView.{PassView}
use Rattle.shared_log.proofs.Taking.{begins-length, sees-on, takes-on}
use Rattle.shared_log.proofs.Handles.{sees-more}
use Rattle.shared_log.proofs.Known.{node_in-front}
use Rattle.shared_log.proofs.Places.{places-more}
use Rattle.shared_log.proofs.Prefixes.{front-take}

-- where a front stands, its node is known
pub known-front : (terms : CoreTerms) (view : PassView) (at : Front) → Stands (shared_terms terms) view.seen at →
    Knows terms view at.node at.len
known-front terms view at stands =
    let front : List Delta = take at.len view.seen in
    let is : IsFront view.seen front at.len = front-take view.seen at.len stands.within in
    let count = is.count in record {
      within = stands.within;
      is = stands.node ∙ ap (node_in terms front) is.count
          ∙ node_in-front terms view.seen front at.len at.len is (omega arith);
    }

module _ (terms : CoreTerms) (v : PassView) (looks : ℕ) (at : Front) (knows : KnowsLog terms v)
    (stands : Stands (shared_terms terms) v.seen at) (room : at.len ≢ terms.limits.log_limit) where
  abbrev handle : PassView → Handle
  handle view = pass_handle terms record { view = view; looks = looks }

  pub has-room : at.len < terms.limits.log_limit
  has-room = let a = stands.within in let b = knows.log.within in omega (arith, room)

  -- another delta stands there
  module _ (w y : PassView) (front : Front) (behind : IsBehind terms v at 8 w)
      (takes : TakesFront terms w front y) where
    pub is-late : IsLate (shared_terms terms) (handle v) at (handle y) front
    is-late = record {
      room = has-room;
      longer =
          let a = behind.longer in let b = begins-length w.seen y.seen takes.sees.begins in
          let c = takes.whole.whole in omega arith;
      more = sees-more terms v y looks knows (sees-on terms v w y behind.sees takes.sees);
      whole = takes.whole;
    }

    pub late-steps : TakesSteps v y 11 []
    late-steps =
        takes-on v w y 8 3 11 [] [] behind.steps
        (record {
          steps = front_steps takes.steps.0 takes.steps.1 takes.steps.2;
          trace = takes.steps.4;
          within = omega arith;
          made = refl;
        })
        (omega arith)

  -- the delta was linked behind the front
  module _ (y : PassView) (node : ℕ) (e : Entry) (entry : IsEntryBehind terms v at e)
      (links : LinksDelta terms v at node e.delta 9 y) where
    abbrev front : Front
    front = record { len = e.seq; rows = e.rows; node = node }

    longer : length y.seen ≡ at.len + 1
    longer =
        let last = links.last in
        omega (arith, ap (λ (h : List Delta). length h) links.seen, length-append v.seen (e.delta ∷ []))

    whole : IsWhole (shared_terms terms) y.seen front
    whole =
        let seq = entry.seq in let now = longer in let last = links.last in
        let all : take e.seq y.seen ≡ y.seen = take_all e.seq y.seen (omega arith) in
        let before : take at.len v.seen ≡ v.seen = take_all at.len v.seen (omega arith) in record {
          stands = record {
            within = omega arith;
            rows = entry.rows ∙ ap (λ (h : List Delta). rows_after terms.base (h ++ e.delta ∷ [])) before
                ∙ ap (rows_after terms.base) (sym links.seen ∙ sym all);
            node = links.known.is ∙ ap (node_in terms y.seen) (sym longer)
                ∙ sym (ap (λ (h : List Delta). node_in terms h (length h)) all);
          };
          whole = omega arith;
        }

    spare : share terms y.author - y.used ≡ (share terms v.author - v.used) - 1
    spare = ap (λ a. share terms a - y.used) links.author ∙ (let used = links.used in omega arith)

    pub is-appended : Appended (shared_terms terms) (handle v) at e.delta (handle y) front
    is-appended = record {
      room = has-room;
      last = links.last;
      is = λ i. record {
        seen = links.seen i;
        author = links.author i;
        spare = spare i;
        walked = None;
        looks = Some looks;
      };
      mine = (λ i. places_by (links.author i) (links.seen i)) ∙ places-more v.author v.seen e.delta entry.author
          ∙ ap (λ k. places_by v.author v.seen ++ k ∷ []) (sym links.last);
      whole = whole;
    }
