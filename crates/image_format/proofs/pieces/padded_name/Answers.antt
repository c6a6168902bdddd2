use Rattle.std.proofs.Common.{◌≡◌, ◌≤◌, ◌+◌, ◌-◌, length, take, drop, true, false, nat_le, arith, sym, ap, ◌∙◌}
use Rattle.apex_model.specs.Fields.{is_padding, name_limit}
use Rattle.image_format.proofs.Padded.{rest_of, is_within_limit, name_unpadded, name_from}
use Rattle.image_format.proofs.pieces.padded_name.Goals as goal

pub returns-then-not-is_zero : goal.returns-then-not-is_zero
returns-then-not-is_zero c =
    let bad : is_padding (drop (c.args.at + c.args.count) (take (length c.args.bytes.now) c.args.bytes.now)) ≡ false =
    ap is_padding (sym (rest_of c.args.bytes.now (c.args.at + c.args.count))) ∙ sym c.is_zero.ensures ∙ c.if-not-is_zero.true in
    sym (name_unpadded c.args.version c.args.bytes.now c.args.at c.args.count (length c.args.bytes.now) bad)

pub returns : goal.returns
returns c =
    let good : is_padding (drop (c.args.at + c.args.count) (take (length c.args.bytes.now) c.args.bytes.now)) ≡ true =
    ap is_padding (sym (rest_of c.args.bytes.now (c.args.at + c.args.count))) ∙ sym c.is_zero.ensures ∙ c.if-not-is_zero.false in
    let few : c.args.count ≤ name_limit c.args.version = rw c.longest_name.ensures at c.if-count-longest_name.false in
    let short : nat_le c.args.count (name_limit c.args.version) ≡ true = is_within_limit c.args.count (name_limit c.args.version) few in
    let same : c.args.at + c.args.count - c.args.at ≡ c.args.count = omega arith in
    name_from c.args.version c.args.bytes.now c.args.at c.args.count (length c.args.bytes.now) c.read.result short good (rw same at c.read.ensures)
