use Rattle.std.proofs.Common.{ℕ, ◌^◌, ◌≤◌, arith}
use Rattle.std.proofs.Math.Nat.{pow-le-pow_right}
use Rattle.query_report.proofs.reader.spelled.Goals as goal

few : (k most : ℕ) → k ≤ most → 10 ^ k ≤ 10 ^ most
few k most le = pow-le-pow_right {n = 10} (omega arith) {i = k} {j = most} le

pub overflow_mul-number : goal.overflow_mul-number
overflow_mul-number c = omega (arith, few c.loop-b.b-index 15 (omega arith))

pub overflow_add-number : goal.overflow_add-number
overflow_add-number c = omega (arith, few c.loop-b.b-index 15 (omega arith))

pub returns-clause-within : goal.returns-clause-within
returns-clause-within c = omega (arith, few c.loop-b.b-index 16 (omega arith))
