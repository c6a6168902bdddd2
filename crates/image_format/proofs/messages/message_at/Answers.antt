use Rattle.std.proofs.Common.{◌≡◌, ◌+◌, ◌-◌, length, take, drop, min, true, arith, sym, ap, ◌∙◌, List, ℕ, refl}
use Rattle.apex_model.specs.Fields.{is_padding, part}
use Rattle.image_format.proofs.Padded.{message_read, message_cut, message_rest}
use Rattle.image_format.proofs.messages.message_at.Goals as goal

pub returns : goal.returns
returns c =
    let behind : List ℕ = take (length c.args.b.now - 6) (drop 6 c.args.b.now) in
    let end : c.min-end.result ≡ min (length behind) c.two_at-count.result = c.min-end.ensures in
    let same : part c.args.b.now 6 c.two_at-count.result ≡ c.copied.result = sym (message_cut c.args.b.now behind c.two_at-count.result refl) ∙ ap (λ (n : ℕ). take n behind) (sym end) ∙ sym c.copied.ensures in
    let rest : is_padding (drop (6 + c.two_at-count.result) c.args.b.now) ≡ true =
    ap is_padding (sym (message_rest c.args.b.now behind c.two_at-count.result refl)) ∙ ap (λ (n : ℕ). is_padding (take (length behind - n) (drop n behind))) (sym end) ∙ sym c.is_zero.ensures ∙ c.if-not-is_zero.false in
    sym (message_read c.args.limit c.args.b.now c.copied.result c.four_at-number.result c.two_at-count.result (sym c.four_at-number.ensures) (sym c.two_at-count.ensures) (omega arith) (omega arith) (omega arith) same rest)
