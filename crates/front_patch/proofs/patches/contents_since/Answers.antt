use Rattle.std.proofs.Common.{◌≡◌, ℕ, List, take, Option, Some, None, refl, arith}
use Rattle.std.specs.Option.{unwrap_or}
use Rattle.cubit_base.specs.History.{after}
use Rattle.cubit_base.specs.declared.delta.Delta.{Delta}
use Rattle.commit_log.specs.Log.{Terms}
use Rattle.unit_version.specs.Content.{content_of}
use Rattle.unit_version.specs.declared.unit.Unit.{Unit as IndexUnit}
use Rattle.version_store.specs.Version.{Version, Fits}
use Rattle.front_patch.specs.Since.{IsContentSince, content_by}
use Rattle.front_patch.specs.Taken.{Serves}
use Rattle.front_patch.proofs.patches.contents_since.Goals as goal

content-since : (terms : Terms) (log : List Delta) (least : ℕ) (unit : IndexUnit) (version : Option Version) →
    ((v : Version) → Fits terms log unit v → unwrap_or v.content (content_of unit terms.base)
    ≡ content_of unit (after terms.base (take v.front.len log))) →
    Serves terms log least unit version → IsContentSince terms log least unit (content_by version unit terms.base)
content-since terms log least unit None shows serves = record {
  len = 0;
  since = omega (arith, serves);
  within = omega arith;
  is = refl;
}
content-since terms log least unit (Some v) shows serves = record {
  len = v.front.len;
  since = serves.1;
  within = serves.0.stands.within;
  is = shows v serves.0;
}

pub returns : goal.returns
returns c terms log least unit version =
    content-since terms log least unit version (c.versions.ensures.content terms log unit)
