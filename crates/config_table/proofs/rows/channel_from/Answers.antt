use Rattle.std.proofs.Common.{rules, ◌≡◌, true, false, refl}
use Rattle.toml.specs.View.{table_view}
use Rattle.table_model.specs.Document.{has_only, channel_keys}
use Rattle.table_model.specs.Reading.{names_of, and_also, channel_of}
use Rattle.config_table.proofs.Both.{both_give, exactly}
use Rattle.config_table.proofs.RowLaws.{channel_is, channel_refused, made_gives}
use Rattle.config_table.proofs.rows.channel_from.Goals as goal

pub returns-then-not-has_only : goal.returns-then-not-has_only
returns-then-not-has_only c =
    let other : has_only (names_of channel_keys) (table_view c.args.table.now) ≡ false = search (rules, c.has_only.ensures, c.if-not-has_only.true) in
    channel_refused (table_view c.args.table.now) other

pub returns : goal.returns
returns c =
    let known : has_only (names_of channel_keys) (table_view c.args.table.now) ≡ true = search (rules, c.has_only.ensures, c.if-not-has_only.false) in
    let both = both_give (λ x. x) (λ x. x) c.channel_ends-ends.result c.channel_sizes.result _ _ c.channel_ends-ends.ensures (exactly c.channel_sizes.result _ c.channel_sizes.ensures) in
    rw (c.channel_of.ensures, channel_is (table_view c.args.table.now) known) (made_gives (λ x. x) (λ x. x) channel_of channel_of (and_also c.channel_ends-ends.result c.channel_sizes.result) _ (λ x. refl) both)
