-- What a pass tells as a handle of the log.
use Rattle.std.proofs.Common.{◌≡◌, ℕ, ◌-◌, List, [], ◌∷◌, Some, None, sym, ap, ◌∙◌, subst, append_assoc}
use Rattle.std.specs.List.{count_by}
use Rattle.cubit_base.specs.declared.delta.Delta.{Delta}
use Rattle.log_core.specs.declared.step.Step.TheVariants.{LoadPayload, Join}
use Rattle.log_core.specs.declared.step.Seen.TheVariants.{Value, Done}
use Rattle.log_core.specs.Terms.{CoreTerms, share, first_node}
use Rattle.log_core.specs.Chain.{is_by, delta_count}
use Rattle.commit_log.specs.Handle.{Begins, places_by, mine, raised, with_look, SeesMore}
use Rattle.shared_log.specs.Shown.{meeting}
use Rattle.shared_log.specs.Told.{KnowsLog, LoadsPayload}
use Rattle.shared_log.specs.Calls.{pass_handle, SeesOn, MeetsDate, IsPass}
use Rattle.shared_log.specs.declared.views.PassView.{PassView}
use Rattle.shared_log.proofs.Places.{places-same}

-- a pass that saw more has the same places
mine-same : (terms : CoreTerms) (v w : PassView) (n m : ℕ) → KnowsLog terms v → SeesOn terms v w →
    mine (pass_handle terms record { view = w; looks = m }) ≡ mine (pass_handle terms record { view = v; looks = n })
mine-same terms v w n m knows sees =
    let count : count_by (is_by v.author) w.seen ≡ count_by (is_by v.author) v.seen =
    sym (subst (λ a. w.used ≡ count_by (is_by a) w.seen) sees.author sees.knows.used) ∙ sees.used ∙ knows.used in
    ap (λ a. places_by a w.seen) sees.author
    ∙ places-same v.author v.seen w.seen sees.begins count

handle-same : (terms : CoreTerms) (v w : PassView) (n : ℕ) → SeesOn terms v w →
    pass_handle terms record { view = w; looks = n }
    ≡ record (pass_handle terms record { view = v; looks = n }) { seen = w.seen }
handle-same terms v w n sees = λ i. record {
  seen = w.seen;
  author = sees.author i;
  spare = share terms (sees.author i) - sees.used i;
  walked = None;
  looks = Some n;
}

pub sees-more : (terms : CoreTerms) (v w : PassView) (n : ℕ) → KnowsLog terms v → SeesOn terms v w →
    SeesMore (pass_handle terms record { view = v; looks = n }) (pass_handle terms record { view = w; looks = n })
sees-more terms v w n knows sees = record {
  is = handle-same terms v w n sees;
  begins = sees.begins;
  mine = mine-same terms v w n n knows sees;
}

-- one front more was taken
pub looks-more : (terms : CoreTerms) (v w : PassView) (n m : ℕ) → KnowsLog terms v → SeesOn terms v w → m ≡ raised n →
    SeesMore (with_look (pass_handle terms record { view = v; looks = n }))
    (pass_handle terms record { view = w; looks = m })
looks-more terms v w n m knows sees is = record {
  is = handle-same terms v w m sees
      ∙ ap (λ k. record (pass_handle terms record { view = v; looks = n }) { seen = w.seen; looks = Some k }) is;
  begins = sees.begins;
  mine = mine-same terms v w n m knows sees;
}

pub still-pass : (terms : CoreTerms) (v w : PassView) (author first most used : ℕ) →
    IsPass terms v author first most used → SeesOn terms v w → IsPass terms w author first most used
still-pass terms v w author first most used is sees = record {
  knows = sees.knows;
  author_is = is.author_is ∙ sym sees.author;
  first_is = is.first_is ∙ ap (first_node terms) (sym sees.author);
  most_is = is.most_is ∙ ap (share terms) (sym sees.author);
  used_is = is.used_is ∙ sym sees.used;
}

-- a join and the load after it
pub meets : (terms : CoreTerms) (view later : PassView) (prefix : List Delta) (value : ℕ) →
    LoadsPayload terms (meeting view prefix) 0 0 0 value later → MeetsDate terms view prefix later
meets terms view later prefix value p = record {
  sees = record {
    begins = subst (Begins view.seen) (sym p.seen) p.took.had;
    author = p.took.author;
    used = p.used;
    knows = p.took.knows;
  };
  met = subst (Begins prefix) (sym p.seen) p.took.met;
  steps = (
    value,
    p.took.trace ∙ append_assoc view.trace (record { step = Join (delta_count prefix); gave = Done } ∷ [])
        (record { step = LoadPayload 0 0; gave = Value value } ∷ []),
  );
}
