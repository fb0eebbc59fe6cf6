-- What the fields of a core stand for.
use Rattle.std.specs.Prelude.{◌≤◌, vec_capacity}
use Rattle.std.specs.List.{sum}
use Rattle.log_core.specs.declared.machine.Core.TheInside.{Inside}
use Rattle.log_core.specs.Terms.{CoreTerms, node_count, AreTerms}
use Rattle.log_core.specs.Core.{CoreValue, IsSound}

abbrev pub core_terms : Inside → CoreTerms
core_terms c = record { base = c.base; shares = c.shares.items; limits = c.limits }

abbrev pub core_value : Inside → CoreValue
core_value c = record {
  terms = core_terms c;
  words = c.words.items;
  chain = record { nodes = c.nodes.items; history = c.deltas.items; tail_place = c.tail_place };
  parties = c.parties.items;
  noted = c.noted;
}

-- it is sound, and has room for as many entries as the parties have nodes
pub record IsHeld (c : Inside) : Type 0 where
  pub sound : IsSound (core_value c)
  pub terms : AreTerms (core_terms c)
  pub node_room : node_count (core_terms c) ≤ vec_capacity c.nodes
  pub delta_room : sum c.shares.items ≤ vec_capacity c.deltas
