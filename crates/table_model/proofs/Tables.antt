-- Reading part by part gives the table that the definition gives.
use Rattle.std.proofs.Common.{◌≡◌, ◌<◌, Bool, true, false, Result, Ok, Err, refl, sym, ap, ◌∙◌, lit<}
use Rattle.toml.specs.Data.{Members}
use Rattle.table_model.specs.Errors.{order}
use Rattle.table_model.specs.Document.{holds, Written, written}
use Rattle.table_model.specs.Table.{table_of_written, table_of_document}
use Rattle.table_model.specs.Judging.{Judges}
use Rattle.table_model.specs.Reading.{◌>>=◌, document_from, table_from}
use Rattle.table_model.specs.declared.errors.TableError.{TableError}
use Rattle.table_model.specs.declared.errors.TableError.TheVariants.{TooLong, NotToml, UnknownKey, MissingKey, WrongKind, BadName, OutOfRange, Repeated, UnknownName, VolumeOverfull, ImageTooLarge, OutOfMemory}
use Rattle.table_model.proofs.JudgedRows.{good_written, judges_document}

never : {A : Type 0} (b : Bool) → b ≡ true → b ≡ false → A
never b h k = absurd (let no : true ≡ false = sym h ∙ k in cc)

refused : (top : Members) (e : TableError) → holds e top ≡ true → ((f : TableError) → order f < order e → holds f top ≡ false) → ((f : TableError) → order f < 3 → holds f top ≡ false) → ((f : TableError) → 7 < order f → holds f top ≡ false)
    → table_of_document top ≡ Err e
unfolding table_of_document
refused top OutOfMemory h before low high = never (holds OutOfMemory top) h (low OutOfMemory (lit< tt))
refused top TooLong h before low high = never (holds TooLong top) h (low TooLong (lit< tt))
refused top NotToml h before low high = never (holds NotToml top) h (low NotToml (lit< tt))
refused top UnknownKey h before low high = rw h refl
refused top MissingKey h before low high = rw (before UnknownKey (lit< tt), h) refl
refused top WrongKind h before low high = rw (before UnknownKey (lit< tt), before MissingKey (lit< tt), h) refl
refused top BadName h before low high = rw (before UnknownKey (lit< tt), before MissingKey (lit< tt), before WrongKind (lit< tt), h) refl
refused top OutOfRange h before low high = rw (before UnknownKey (lit< tt), before MissingKey (lit< tt), before WrongKind (lit< tt), before BadName (lit< tt), h) refl
refused top Repeated h before low high = never (holds Repeated top) h (high Repeated (lit< tt))
refused top UnknownName h before low high = never (holds UnknownName top) h (high UnknownName (lit< tt))
refused top VolumeOverfull h before low high = never (holds VolumeOverfull top) h (high VolumeOverfull (lit< tt))
refused top ImageTooLarge h before low high = never (holds ImageTooLarge top) h (high ImageTooLarge (lit< tt))

accepted : (top : Members) → ((f : TableError) → holds f top ≡ false) → table_of_document top ≡ table_of_written (written top)
unfolding table_of_document
accepted top none = rw (none UnknownKey, none MissingKey, none WrongKind, none BadName, none OutOfRange) refl

is_table : (top : Members) (r : Result Written TableError) → Judges r (λ n. holds n top) (written top) good_written → (r >>= table_of_written) ≡ table_of_document top
is_table top (Ok w) j =
    let p = j.ok w refl in
    ap table_of_written p.1 ∙ sym (accepted top p.0)
is_table top (Err e) j =
    let p = j.err e refl in
    sym (refused top e p.0 p.1 j.low j.high)

pub reading_is_table : (top : Members) → table_from top ≡ table_of_document top
reading_is_table top = is_table top (document_from top) (judges_document top)
