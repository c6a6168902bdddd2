-- What a run in one range shows of the parts of an image elsewhere.
use Rattle.std.proofs.Common.{◌≡◌, inl, inr, ⊎_elim, ℕ, ◌*◌, List, length, Some, slice_get, ap, ◌∙◌}
use Rattle.apex_types.specs.Rows.{Rows}
use Rattle.apex_model.specs.Durable.{StoredFile, IsCutBetween}
use Rattle.apex_model.specs.Files.{File}
use Rattle.apex_model.specs.Firsts.{first_tree}
use Rattle.apex_model.specs.Image.{tree_of_region}
use Rattle.apex_model.specs.Layout.{superblock_blocks, tree_blocks}
use Rattle.apex_model.specs.Logbooks.{Logbook}
use Rattle.apex_model.specs.Trees.{Tree}
use Rattle.apex_model.specs.World.{World}
use Rattle.rig_core.specs.Bytes.{SameWithin, SameElsewhere}
use Rattle.rig_core.specs.Leaves.{SpeaksOf, AreApart, FromNow, IsSettled}
use Rattle.rig_core.specs.Outside.{Outside, AllNow, Sound}
use Rattle.rig_core.specs.Runs.{Runs, Shows}
use Rattle.rig_core.proofs.Moments.{leaves_both, leaves_weaker}
use Rattle.rig_core.proofs.Put.{part_same}
use Rattle.rig_core.proofs.Regions.{leaves_region, region_from_view, within_from_elsewhere}
use Rattle.recover_scan.specs.Mount.{IsImageOf}
use Rattle.store_model.specs.Betweens.{TreeSite, tree_long, IsTreeAt, AreTreesBetween}
use Rattle.logbook_store.specs.Logs.{Site, size_of, AreBeforeOrAfter}
use Rattle.logbook_store.proofs.Beside.{stored_same}
use Rattle.image_layout.specs.Laws.{HasCounts}
use Rattle.image_layout.specs.Layout.{tree_sites, log_sites}
use Rattle.image_layout.specs.Ready.{Stores}
use Rattle.image_layout.proofs.Between.{between_stores}
use Rattle.image_layout.proofs.Spoken.{superblock_speaks}

-- what a range says is shown through a run elsewhere
region_shows : (V : Type 0) (at n other k writes syncs : ℕ) (Q : List ℕ → Type 0) (o e : Outside) → SpeaksOf at n Q → AreApart at n other k → (V → AllNow Q o) → (V → Q o.view) → Runs V other k writes syncs o e → Shows V Q o e
region_shows V at n other k writes syncs Q o e speaks apart all holds run = record {
  any_moment = λ tells. leaves_region at n other k Q o e speaks apart (all tells) run.outside;
  shown = λ tells. let same = run.outside_view tells in speaks.told_by o.view e.view same.long (within_from_elsewhere at n other k o.view e.view apart same) (holds tells);
}

-- ---- the superblock

pub superblock_now : (V K : Type 0) (table : Rows) (o : Outside) → Sound V K o → IsSettled 0 (512 * superblock_blocks) o → IsImageOf table o.view → AllNow (IsImageOf table) o
superblock_now V K table o sound settled holds = region_from_view V K 0 (512 * superblock_blocks) (IsImageOf table) o sound (superblock_speaks table) settled holds

pub superblock_shows : (V K : Type 0) (table : Rows) (at n writes syncs : ℕ) (o e : Outside) → Sound V K o → AreApart 0 (512 * superblock_blocks) at n → IsSettled 0 (512 * superblock_blocks) o → (V → IsImageOf table o.view)
    → Runs V at n writes syncs o e → Shows V (IsImageOf table) o e
superblock_shows V K table at n writes syncs o e sound apart settled holds run =
    region_shows V 0 (512 * superblock_blocks) at n writes syncs (IsImageOf table) o e (superblock_speaks table) apart (λ tells. superblock_now V K table o sound settled (holds tells)) holds run

-- ---- the logbooks while trees act, and the trees while logbooks do

books_carry : (at n : ℕ) (sites : List Site) (books : List Logbook) (a b : List ℕ) → ((k : ℕ) (site : Site) → slice_get sites k ≡ Some site → AreApart site.1 (size_of site) at n)
    → SameElsewhere at n a b → AreBeforeOrAfter sites books books a → AreBeforeOrAfter sites books books b
books_carry at n sites books a b apart same all k site c d is was will =
    let within = within_from_elsewhere site.1 (size_of site) at n a b (apart k site is) same in
    ⊎_elim (λ s. inl (stored_same site.0 site.1 c a b same.long within s)) (λ s. inr (stored_same site.0 site.1 d a b same.long within s)) (all k site c d is was will)

pub books_show : (V : Type 0) (at n writes syncs : ℕ) (sites : List Site) (books : List Logbook) (o e : Outside) → ((k : ℕ) (site : Site) → slice_get sites k ≡ Some site → AreApart site.1 (size_of site) at n)
    → (V → AllNow (AreBeforeOrAfter sites books books) o) → (V → AreBeforeOrAfter sites books books o.view) → Runs V at n writes syncs o e → Shows V (AreBeforeOrAfter sites books books) o e
books_show V at n writes syncs sites books o e apart all holds run = record {
  any_moment = λ tells. leaves_weaker (FromNow at n o) (AreBeforeOrAfter sites books books) o e
      (λ image from. books_carry at n sites books from.0 image apart from.3 (all tells from.0 from.1 from.2)) run.outside;
  shown = λ tells. books_carry at n sites books o.view e.view apart (run.outside_view tells) (holds tells);
}

tree_carry : (site : TreeSite) (tree : Tree StoredFile) (a b : List ℕ) → length b ≡ length a → SameWithin site.1 (tree_long site) a b → IsTreeAt site tree a → IsTreeAt site tree b
tree_carry site tree a b long within is = ap (tree_of_region site.0) (part_same site.1 (512 * tree_blocks site.0) b a long within.within) ∙ is

trees_carry : (at n : ℕ) (sites : List TreeSite) (trees : List (Tree File)) (a b : List ℕ) → ((k : ℕ) (site : TreeSite) → slice_get sites k ≡ Some site → AreApart site.1 (tree_long site) at n)
    → SameElsewhere at n a b → AreTreesBetween sites trees trees a → AreTreesBetween sites trees trees b
trees_carry at n sites trees a b apart same all k site c d is was will =
    let within = within_from_elsewhere site.1 (tree_long site) at n a b (apart k site is) same in
    ⊎_elim (λ s. inl (tree_carry site (first_tree c) a b same.long within s)) (λ s. inr (tree_carry site (first_tree d) a b same.long within s)) (all k site c d is was will)

pub trees_show : (V : Type 0) (at n writes syncs : ℕ) (sites : List TreeSite) (trees : List (Tree File)) (o e : Outside) → ((k : ℕ) (site : TreeSite) → slice_get sites k ≡ Some site → AreApart site.1 (tree_long site) at n)
    → (V → AllNow (AreTreesBetween sites trees trees) o) → (V → AreTreesBetween sites trees trees o.view) → Runs V at n writes syncs o e → Shows V (AreTreesBetween sites trees trees) o e
trees_show V at n writes syncs sites trees o e apart all holds run = record {
  any_moment = λ tells. leaves_weaker (FromNow at n o) (AreTreesBetween sites trees trees) o e
      (λ image from. trees_carry at n sites trees from.0 image apart from.3 (all tells from.0 from.1 from.2)) run.outside;
  shown = λ tells. trees_carry at n sites trees o.view e.view apart (run.outside_view tells) (holds tells);
}

-- ---- all parts together

pub shows_between : (V : Type 0) (table : Rows) (before after : World) (o e : Outside) → HasCounts table before → HasCounts table after
    → Shows V (IsImageOf table) o e
    → Shows V (AreTreesBetween (tree_sites table) before.files.trees after.files.trees) o e
    → Shows V (AreBeforeOrAfter (log_sites table) before.logbooks.books after.logbooks.books) o e
    → Shows V (Stores table (IsCutBetween before after)) o e
shows_between V table before after o e many many' superblock trees books =
    let A : List ℕ → Type 0 = IsImageOf table in
    let B : List ℕ → Type 0 = AreTreesBetween (tree_sites table) before.files.trees after.files.trees in
    let C : List ℕ → Type 0 = AreBeforeOrAfter (log_sites table) before.logbooks.books after.logbooks.books in
    record {
      any_moment = λ tells.
          leaves_weaker (λ image. A image × (B image × C image)) (Stores table (IsCutBetween before after)) o e
          (λ image has. between_stores table before after image many many' (record { superblock = has.0; trees = has.1.0; books = has.1.1 }))
          (leaves_both A (λ image. B image × C image) o e (superblock.any_moment tells) (leaves_both B C o e (trees.any_moment tells) (books.any_moment tells)));
      shown = λ tells. between_stores table before after e.view many many' (record { superblock = superblock.shown tells; trees = trees.shown tells; books = books.shown tells });
    }
