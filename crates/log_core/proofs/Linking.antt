-- What one more entry and one more link leave of a history and of words.
use Rattle.std.proofs.Common.{◌≡◌, ◌≢◌, ℕ, ◌+◌, ◌*◌, ◌<◌, List, [], ◌∷◌, ◌++◌, length, set, subst, arith, get_or-set_other, get_or-set_same}
use mathlib.Core.Logic.{dite}
use native.Mathlib.Decide.{dec_lt}
use Rattle.cubit_base.specs.Table.{Row}
use Rattle.cubit_base.specs.Delta.{applied, IsLawful}
use Rattle.cubit_base.specs.History.{after, IsHistory}
use Rattle.cubit_base.specs.declared.delta.Delta.{Delta}
use Rattle.log_core.specs.Chain.{tail, payload_place, link_place, payload, link}

-- each place of a longer list is an old one, or the last
pub each-place : (P : ℕ → Type 0) (n k : ℕ) → k < n + 1 → (k < n → P k) → P n → P k
each-place P n k lt old last = dite (dec_lt k n) old (λ ge. let e : n ≡ k = omega arith in subst P e last)

pub history-appended : (limit : ℕ) (table : List Row) (h : List Delta) (d : Delta) → IsHistory limit table h →
    IsLawful limit (after table h) d → IsHistory limit table (h ++ d ∷ [])
history-appended limit table [] d is lawful = (lawful, tt)
history-appended limit table (x ∷ h) d is lawful = (is.0, history-appended limit (applied table x) h d is.1 lawful)

-- a link is no other word
module _ (ws : List ℕ) (n to : ℕ) where
  pub payload-link : (m w : ℕ) → w < 4 → payload (set ws (link_place n) to) m w ≡ payload ws m w
  payload-link m w small = get_or-set_other ws (link_place n) (payload_place m w) to 0 (λ e. absurd (omega arith))

  pub other-link : (m : ℕ) → m ≢ n → link (set ws (link_place n) to) m ≡ link ws m
  other-link m ne = get_or-set_other ws (link_place n) (link_place m) to 0 (λ e. ne (omega arith))

  pub own-link : 5 * n + 5 < length ws → link (set ws (link_place n) to) n ≡ to
  own-link small = get_or-set_same ws (link_place n) to 0 small

  pub tail-link : tail (set ws (link_place n) to) ≡ tail ws
  tail-link = get_or-set_other ws (link_place n) 0 to 0 (λ e. absurd (omega arith))
