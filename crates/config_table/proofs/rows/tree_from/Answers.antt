use Rattle.std.proofs.Common.{rules, ◌≡◌, true, false, refl}
use Rattle.toml.specs.View.{table_view}
use Rattle.table_model.specs.Document.{has_only, tree_keys}
use Rattle.table_model.specs.Reading.{names_of, and_also, tree_of}
use Rattle.config_table.proofs.Both.{both_give, exactly}
use Rattle.config_table.proofs.RowLaws.{tree_is, tree_refused, made_gives}
use Rattle.config_table.proofs.rows.tree_from.Goals as goal

pub returns-then-not-has_only : goal.returns-then-not-has_only
returns-then-not-has_only c =
    let other : has_only (names_of tree_keys) (table_view c.args.table.now) ≡ false = search (rules, c.has_only.ensures, c.if-not-has_only.true) in
    tree_refused (table_view c.args.table.now) other

pub returns : goal.returns
returns c =
    let known : has_only (names_of tree_keys) (table_view c.args.table.now) ≡ true = search (rules, c.has_only.ensures, c.if-not-has_only.false) in
    let both = both_give (λ x. x) (λ x. x) c.tree_users-users.result c.tree_sizes.result _ _ c.tree_users-users.ensures (exactly c.tree_sizes.result _ c.tree_sizes.ensures) in
    rw (c.tree_of.ensures, tree_is (table_view c.args.table.now) known) (made_gives (λ x. x) (λ x. x) tree_of tree_of (and_also c.tree_users-users.result c.tree_sizes.result) _ (λ x. refl) both)
