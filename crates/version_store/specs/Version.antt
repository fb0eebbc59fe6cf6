-- Versions of units.
use Rattle.std.specs.Prelude.{◌≡◌, List, length, take, [], Option, Some, None}
use Rattle.cubit_base.specs.History.{after}
use Rattle.cubit_base.specs.declared.delta.Delta.{Delta}
use Rattle.commit_log.specs.Log.{Terms, Stands}
use Rattle.commit_log.specs.declared.front.Front.{Front}
use Rattle.unit_version.specs.Content.{content_of}
use Rattle.unit_version.specs.declared.unit.Unit.{Unit as IndexUnit}
use Rattle.unit_version.specs.declared.content.Content.{Content}

-- a front, and content of the unit's own, or none where it is the base's
pub record Version : Type 0 where
  pub front : Front
  pub content : Option Content

-- the base's version of each unit, whose front is the empty one
abbrev pub base_version : Terms → Version
base_version terms = record {
  front = record { len = 0; rows = length terms.base; node = terms.node [] };
  content = None;
}

-- the content is the unit's after the front; the base's content is that after the empty front alone
abbrev pub IsContentAt : Terms → List Delta → IndexUnit → Front → Option Content → Type 0
IsContentAt terms log unit front None = front.len ≡ 0
IsContentAt terms log unit front (Some content) = content ≡ content_of unit (after terms.base (take front.len log))

-- the version is one of the unit, at a front of the log
pub record Fits (terms : Terms) (log : List Delta) (unit : IndexUnit) (version : Version) : Type 0 where
  pub stands : Stands terms log version.front
  pub content_is : IsContentAt terms log unit version.front version.content
