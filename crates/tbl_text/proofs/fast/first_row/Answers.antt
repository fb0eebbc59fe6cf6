use Rattle.std.proofs.Common.{arith}
use Rattle.tbl_text.proofs.TakenLine.{begins-taken}
use Rattle.tbl_text.proofs.fast.first_row.Goals as goal

pub returns : goal.returns
returns c =
    let order = c.in_ok-order.ensures in
    let line = c.in_ok-line.ensures in
    let qty = c.in_ok-qty.ensures in
    let price = c.in_ok-price.ensures in
    let disc = c.in_ok-disc.ensures in
    let tax = c.in_ok-tax.ensures in
    let day = c.in_ok-day.ensures in
    begins-taken c.args.bytes.now _ _ _
    record {
      after_order = _;
      after_part = _;
      after_supp = _;
      after_line = _;
      after_quantity = _;
      after_price = _;
      after_discount = _;
      after_tax = _;
      after_flag = _;
      after_status = _;
      after_date = _;
      order = order.value;
      part = c.in_ok-digits.ensures;
      supp = c.in_ok-digits-2.ensures;
      line = line.value;
      quantity = qty.value;
      price = price.value;
      discount = disc.value;
      tax = tax.value;
      flag = c.in_ok-flag.ensures;
      status = c.in_ok-status.ensures;
      date = day.value;
      tail = c.in_ok-tail.ensures;
    }
    record {
      key_in = record { order = order.range; line_low = line.range.0; line_high = line.range.1 };
      order_in = omega arith;
      tuple_in = record {
        price = price.range;
        day = day.range;
        qty_low = qty.range.0;
        qty_high = qty.range.1;
        disc = disc.range;
        tax = tax.range;
      };
    }
