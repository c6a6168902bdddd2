-- The least name among entries.
use Rattle.std.proofs.Common.{◌≡◌, ◌≢◌, ℕ, zero, suc, ◌+◌, ◌<◌, ◌≤◌, true, false, cond, ◌&&◌, eqb, List, [], ◌∷◌, ◌++◌, length, set, get_or, refl, sym, ap, subst, ◌∙◌, Option, Some, None, IsSome, ◌⊎◌, inl, inr, arith}
use Rattle.std.proofs.lemmas.Bool.{cases_eq, eqb-true, eq-eqb}
use Rattle.std.specs.Prelude.{unwrap_or, is_some as is_some_answer}
use Rattle.std.specs.declared.cmp.Ordering.{Ordering}
use Rattle.std.specs.declared.cmp.Ordering.TheVariants.{Less, Equal, Greater}
use Rattle.std.specs.Cmp.{tied_itself}
use Rattle.std.specs.Cmp.Lexicographic.{nat_list_cmp_total}
use Rattle.std.specs.Ordering.{is_lt, ordering_reverse}
use Rattle.std.specs.FinMap.Entries.{find}
use Rattle.apex_types.specs.declared.fields.Spot.{Spot}
use Rattle.apex_types.specs.declared.fields.Spot.TheVariants.{Free, File, Directory, Root}
use Rattle.apex_model.specs.Trees.{Name, Node, directory, file, name_cmp, path_cmp, is_behind, next_entry, entries_within}
use Rattle.file_tree.specs.declared.entries.Entry.{Entry}
use Rattle.file_tree.specs.Entries.{TreeValue, slot, way_of, Place, in_file, in_directory, path_at, nodes_of, without_directory, IsNextSpot}
use Rattle.file_tree.specs.Least.{is_listed, listed_name, IsLeastPlace, IsLeastBelow, is_second_first, file_spot, directory_spot}
use Rattle.file_tree.specs.Table.{way, paths, value_of, HaveParents, AreSound}
use Rattle.file_tree.proofs.Changes.{Becomes, is_some, slot-within, directories-within, directory_removed}
use Rattle.file_tree.proofs.Children.{and-first, and-second, child-path, path-child}
use Rattle.file_tree.proofs.Listing.{turned, same_name, next-is, next-none, nothing-within, something-within, found-within}
use Rattle.file_tree.proofs.Paths.{Stands, found_stands, at_found, sorted_nodes}
use Rattle.file_tree.proofs.Ways.{not_some, way_of-value}

-- what was read at a place
pub read-slot : {A : Type 0} (xs : List (Option A)) (k : ℕ) (x y : Option A) → x ≡ get_or xs k x → x ≡ y → k < length xs → slot xs k ≡ y
read-slot [] k x y h e within = absurd (omega arith)
read-slot (z ∷ xs) zero x y h e within = sym h ∙ e
read-slot (z ∷ xs) (suc k) x y h e within = read-slot xs k x y h e (omega arith)

-- ---- names in order

not-greater : (o : Ordering) → o ≡ Less → o ≢ Greater
not-greater o l g = let wrong : Less ≡ Greater = sym l ∙ g in cc

less-first : (a b c : Name) → name_cmp a b ≡ Less → name_cmp b c ≢ Greater → name_cmp a c ≢ Greater
less-first a b c less low =
    (elim (name_cmp b c) as (λ o. name_cmp b c ≡ o → name_cmp a c ≢ Greater) [
      | Less ↦ λ e. not-greater (name_cmp a c) (nat_list_cmp_total.trans a b c less e)
      | Equal ↦ λ e. not-greater (name_cmp a c) (ap (name_cmp a) (sym (same_name b c e)) ∙ less)
      | Greater ↦ λ e. absurd (low e)
    ]) refl

low-first : (a b c : Name) → name_cmp a b ≢ Greater → name_cmp b c ≢ Greater → name_cmp a c ≢ Greater
low-first a b c first second =
    (elim (name_cmp a b) as (λ o. name_cmp a b ≡ o → name_cmp a c ≢ Greater) [
      | Less ↦ λ e. less-first a b c e second
      | Equal ↦ λ e. subst (λ (n : Name). name_cmp n c ≢ Greater) (sym (same_name a b e)) second
      | Greater ↦ λ e. absurd (first e)
    ]) refl

lt-less : (o : Ordering) → is_lt o ≡ true → o ≡ Less
lt-less Less h = refl
lt-less Equal h = absurd cc
lt-less Greater h = absurd cc

not-lt-low : (a b : Name) → is_lt (name_cmp a b) ≡ false → name_cmp b a ≢ Greater
not-lt-low a b h g = let less : name_cmp a b ≡ Less = turned a b ∙ ap ordering_reverse g in let wrong : true ≡ false = ap is_lt (sym less) ∙ h in cc

itself-low : (a b : Name) → a ≡ b → name_cmp a b ≢ Greater
itself-low a b e g = let wrong : Equal ≡ Greater = sym (tied_itself nat_list_cmp_total a) ∙ ap (name_cmp a) e ∙ g in cc

-- ---- places

pub record Listed (parent : ℕ) (after : Option Name) (place : Option Entry) (name : Name) : Type 0 where
  pub entry : Entry
  pub is : place ≡ Some entry
  pub listed : is_listed parent after entry ≡ true
  pub name_is : entry.name ≡ name

pub listed-some : (parent : ℕ) (after : Option Name) (place : Option Entry) (name : Name) → listed_name parent after place ≡ Some name → Listed parent after place name
listed-some parent after None name h = absurd (not_some h)
listed-some parent after (Some entry) name h =
    (elim (is_listed parent after entry) as (λ b. is_listed parent after entry ≡ b → cond b (Some entry.name) None ≡ Some name → Listed parent after (Some entry) name) [
      | true ↦ λ t is. let e : entry.name ≡ name = cc in record { entry = entry; is = refl; listed = t; name_is = e }
      | false ↦ λ t is. absurd (not_some is)
    ]) refl h

pub listed-is : (parent : ℕ) (after : Option Name) (place : Option Entry) (entry : Entry) → place ≡ Some entry → is_listed parent after entry ≡ true → listed_name parent after place ≡ Some entry.name
listed-is parent after place entry h t = ap (listed_name parent after) h ∙ ap (λ b. cond b (Some entry.name) None) t

pub unlisted-is : (parent : ℕ) (after : Option Name) (place : Option Entry) (entry : Entry) → place ≡ Some entry → is_listed parent after entry ≡ false → listed_name parent after place ≡ None
unlisted-is parent after place entry h t = ap (listed_name parent after) h ∙ ap (λ b. cond b (Some entry.name) None) t

-- the names below k + 1 are those below k and that at k
split : (j k : ℕ) → j < k + 1 → (j < k) ⊎ (j ≡ k)
split j k h = elim (cases_eq j k) [ inl e ↦ inr e | inr n ↦ inl (omega arith) ]

at-k : (parent : ℕ) (after : Option Name) (entries : List (Option Entry)) (j k : ℕ) (name other : Name) → j ≡ k → listed_name parent after (slot entries k) ≡ Some name → listed_name parent after (slot entries j) ≡ Some other → name ≡ other
at-k parent after entries j k name other e h l = let both : Some name ≡ Some other = sym h ∙ ap (λ i. listed_name parent after (slot entries i)) (sym e) ∙ l in cc

module _ (parent : ℕ) (after : Option Name) (entries : List (Option Entry)) (k : ℕ) (name : Name) (within : k < length entries) (here : listed_name parent after (slot entries k) ≡ Some name) where
  pub least-first : ((j : ℕ) → j < k → listed_name parent after (slot entries j) ≡ None) → IsLeastPlace parent after entries (k + 1) k
  least-first none = record {
    name = name;
    within = within;
    is = here;
    least = λ j other h l. elim (split j k h) [
      | inl low ↦ absurd (not_some (sym (none j low) ∙ l))
      | inr e ↦ itself-low name other (at-k parent after entries j k name other e here l)
    ];
  }

  pub least-lower : (place : ℕ) (best : IsLeastPlace parent after entries k place) → is_lt (name_cmp name best.name) ≡ true → IsLeastPlace parent after entries (k + 1) k
  least-lower place best lt = record {
    name = name;
    within = within;
    is = here;
    least = λ j other h l. elim (split j k h) [
      | inl low ↦ less-first name best.name other (lt-less (name_cmp name best.name) lt) (best.least j other low l)
      | inr e ↦ itself-low name other (at-k parent after entries j k name other e here l)
    ];
  }

  pub least-kept : (place : ℕ) (best : IsLeastPlace parent after entries k place) → is_lt (name_cmp name best.name) ≡ false → IsLeastPlace parent after entries (k + 1) place
  least-kept place best not_lt = record {
    name = best.name;
    within = best.within;
    is = best.is;
    least = λ j other h l. elim (split j k h) [
      | inl low ↦ best.least j other low l
      | inr e ↦ subst (λ (n : Name). name_cmp best.name n ≢ Greater) (at-k parent after entries j k name other e here l) (not-lt-low name best.name not_lt)
    ];
  }

-- the test of two entries is that of their names
pub second-first : (first second : Option Entry) (parent other : ℕ) (after past : Option Name) (a b : Name) → listed_name parent after first ≡ Some a → listed_name other past second ≡ Some b → is_second_first first second ≡ is_lt (name_cmp b a)
second-first first second parent other after past a b h k =
    let f = listed-some parent after first a h in
    let s = listed-some other past second b k in
    (λ i. is_second_first (f.is i) (s.is i)) ∙ (λ i. is_lt (name_cmp (s.name_is i) (f.name_is i)))

-- ---- the least name of a directory

module _ (files directories : List (Option Entry)) (sound : AreSound files directories) (d : ℕ) (w : List Name) (parent : way directories 6 d ≡ Some w) (after : Option Name) where
  listed-path : (entries : List (Option Entry)) → HaveParents directories entries → (j : ℕ) (n : Name) → listed_name d after (slot entries j) ≡ Some n → slot (paths directories entries) j ≡ Some (w ++ n ∷ [])
  listed-path entries parents j n h =
      let l = listed-some d after (slot entries j) n h in
      child-path files directories sound entries parents d w parent n j
      (record { entry = l.entry; is = l.is; parent_is = eqb-true _ _ (and-first (eqb l.entry.parent.0 d) (is_behind after l.entry.name) l.listed); name_is = l.name_is })

  listed-behind : (entries : List (Option Entry)) (j : ℕ) (n : Name) → listed_name d after (slot entries j) ≡ Some n → is_behind after n ≡ true
  listed-behind entries j n h =
      let l = listed-some d after (slot entries j) n h in
      ap (is_behind after) (sym l.name_is) ∙ and-second (eqb l.entry.parent.0 d) (is_behind after l.entry.name) l.listed

  path-listed : (entries : List (Option Entry)) (j : ℕ) (n : Name) → slot (paths directories entries) j ≡ Some (w ++ n ∷ []) → is_behind after n ≡ true → listed_name d after (slot entries j) ≡ Some n
  path-listed entries j n h b =
      let c = path-child files directories sound entries d w parent n j h in
      let listed : is_listed d after c.entry ≡ true = ap (λ x. x && is_behind after c.entry.name) (eq-eqb _ _ c.parent_is) ∙ ap (is_behind after) c.name_is ∙ b in
      listed-is d after (slot entries j) c.entry c.is listed ∙ ap Some c.name_is

  slot-listed : (entries : List (Option Entry)) (j : ℕ) (n : Name) → listed_name d after (slot entries j) ≡ Some n → j < length entries
  slot-listed entries j n h = let l = listed-some d after (slot entries j) n h in slot-within entries j (is_some l.is)

  -- a name that is no greater than those listed is the next one
  next-at : (a : Place) (n : Name) → path_at (paths directories files) (paths directories directories) a ≡ Some (w ++ n ∷ []) → is_behind after n ≡ true
      → ((j : ℕ) (other : Name) → listed_name d after (slot files j) ≡ Some other → name_cmp n other ≢ Greater)
      → ((j : ℕ) (other : Name) → listed_name d after (slot directories j) ≡ Some other → name_cmp n other ≢ Greater)
      → (node : Node ℕ) → find path_cmp (w ++ n ∷ []) (nodes_of (paths directories files) (paths directories directories)) ≡ Some node
      → next_entry (nodes_of (paths directories files) (paths directories directories)) w after ≡ Some (n, node)
  next-at a n is behind low_files low_directories node stands =
      next-is (nodes_of (paths directories files) (paths directories directories)) w after n node (sorted_nodes (paths directories files) (paths directories directories)) (record {
        stands = stands;
        behind = behind;
        least = λ m y found b. low m b (found_stands (paths directories files) (paths directories directories) (w ++ m ∷ []) y found);
      })
    where
      low_at : (m : Name) → is_behind after m ≡ true → (p : Place) → path_at (paths directories files) (paths directories directories) p ≡ Some (w ++ m ∷ []) → name_cmp n m ≢ Greater
      low_at m b (in_file j) h = low_files j m (path-listed files j m h b)
      low_at m b (in_directory j) h = low_directories j m (path-listed directories j m h b)

      low : {y : Node ℕ} (m : Name) → is_behind after m ≡ true → Stands (paths directories files) (paths directories directories) (w ++ m ∷ []) y → name_cmp n m ≢ Greater
      low m b s = low_at m b s.place s.is

  pub next-nothing : ((j : ℕ) → j < length files → listed_name d after (slot files j) ≡ None) → ((j : ℕ) → j < length directories → listed_name d after (slot directories j) ≡ None)
      → next_entry (nodes_of (paths directories files) (paths directories directories)) w after ≡ None
  next-nothing no_files no_directories =
      next-none (nodes_of (paths directories files) (paths directories directories)) w after (sorted_nodes (paths directories files) (paths directories directories))
      (λ m y found. none m (found_stands (paths directories files) (paths directories directories) (w ++ m ∷ []) y found))
    where
      none_at : (m : Name) → is_behind after m ≡ true → (p : Place) → path_at (paths directories files) (paths directories directories) p ≢ Some (w ++ m ∷ [])
      none_at m b (in_file j) h = let l = path-listed files j m h b in not_some (sym (no_files j (slot-listed files j m l)) ∙ l)
      none_at m b (in_directory j) h = let l = path-listed directories j m h b in not_some (sym (no_directories j (slot-listed directories j m l)) ∙ l)

      none : {y : Node ℕ} (m : Name) → Stands (paths directories files) (paths directories directories) (w ++ m ∷ []) y → is_behind after m ≡ false
      none m s = (elim (is_behind after m) as (λ b. is_behind after m ≡ b → b ≡ false) [ true ↦ λ t. absurd (none_at m t s.place s.is) | false ↦ λ t. refl ]) refl

  pub next-file : (k : ℕ) (best : IsLeastPlace d after files (length files) k) → ((j : ℕ) (other : Name) → listed_name d after (slot directories j) ≡ Some other → name_cmp best.name other ≢ Greater)
      → next_entry (nodes_of (paths directories files) (paths directories directories)) w after ≡ Some (best.name, file k)
  next-file k best low =
      let path = listed-path files sound.file_parents k best.name best.is in
      next-at (in_file k) best.name path (listed-behind files k best.name best.is) (λ j other l. best.least j other (slot-listed files j other l) l) low
      (file k) (at_found (paths directories files) (paths directories directories) sound.distinct (in_file k) (w ++ best.name ∷ []) path)

  pub next-directory : (k : ℕ) (best : IsLeastPlace d after directories (length directories) k) → ((j : ℕ) (other : Name) → listed_name d after (slot files j) ≡ Some other → name_cmp best.name other ≢ Greater)
      → next_entry (nodes_of (paths directories files) (paths directories directories)) w after ≡ Some (best.name, directory)
  next-directory k best low =
      let path = listed-path directories sound.directory_parents k best.name best.is in
      next-at (in_directory k) best.name path (listed-behind directories k best.name best.is) low (λ j other l. best.least j other (slot-listed directories j other l) l)
      directory (at_found (paths directories files) (paths directories directories) sound.distinct (in_directory k) (w ++ best.name ∷ []) path)

  -- ---- with both tables

  pub low-over-none : (entries : List (Option Entry)) (n : Name) → ((j : ℕ) → j < length entries → listed_name d after (slot entries j) ≡ None)
      → (j : ℕ) (other : Name) → listed_name d after (slot entries j) ≡ Some other → name_cmp n other ≢ Greater
  low-over-none entries n none j other l g = not_some (sym (none j (slot-listed entries j other l)) ∙ l)

  pub low-over-best : (entries : List (Option Entry)) (n : Name) (k : ℕ) (best : IsLeastPlace d after entries (length entries) k) → name_cmp n best.name ≢ Greater
      → (j : ℕ) (other : Name) → listed_name d after (slot entries j) ≡ Some other → name_cmp n other ≢ Greater
  low-over-best entries n k best low j other l = low-first n best.name other low (best.least j other (slot-listed entries j other l) l)

  pub file-path : (k : ℕ) (n : Name) → listed_name d after (slot files k) ≡ Some n → slot (paths directories files) k ≡ Some (w ++ n ∷ [])
  file-path k n h = listed-path files sound.file_parents k n h

  pub directory-path : (k : ℕ) (n : Name) → listed_name d after (slot directories k) ≡ Some n → slot (paths directories directories) k ≡ Some (w ++ n ∷ [])
  directory-path k n h = listed-path directories sound.directory_parents k n h

pub listed-parent : (d : ℕ) (after : Option Name) (place : Option Entry) (n : Name) (l : Listed d after place n) → l.entry.parent.0 ≡ d
listed-parent d after place n l = eqb-true _ _ (and-first (eqb l.entry.parent.0 d) (is_behind after l.entry.name) l.listed)

-- ---- as callers see it

pub way-found : (files directories : List (Option Entry)) (v : TreeValue) → value_of files directories ≡ v → (d : ℕ) (w : List Name) → way_of v d ≡ Some w → way directories 6 d ≡ Some w
way-found files directories v is d w h = sym (way_of-value files directories d) ∙ ap (λ (v : TreeValue). way_of v d) is ∙ h

pub next-file-spot : (files directories : List (Option Entry)) (v : TreeValue) → value_of files directories ≡ v → AreSound files directories → (d : ℕ) (w : List Name) → way_of v d ≡ Some w → (after : Option Name)
    → (k : ℕ) (best : IsLeastPlace d after files (length files) k) → ((j : ℕ) (other : Name) → listed_name d after (slot directories j) ≡ Some other → name_cmp best.name other ≢ Greater)
    → IsNextSpot v w after (file_spot k (slot files k))
unfolding value_of
next-file-spot files directories v is sound d w h after k best low =
    let parent = way-found files directories v is d w h in
    let l = listed-some d after (slot files k) best.name best.is in
    subst (λ (o : Option Spot). IsNextSpot v w after o) (sym (ap (file_spot k) l.is)) (
      ap (way_of v) (listed-parent d after (slot files k) best.name l) ∙ h,
      ap (λ (v : TreeValue). next_entry v.nodes w after) (sym is) ∙ next-file files directories sound d w parent after k best low ∙ ap (λ (n : Name). Some (n, file k)) (sym l.name_is),
      ap (λ (v : TreeValue). slot v.files k) (sym is) ∙ file-path files directories sound d w parent after k best.name best.is ∙ ap (λ (n : Name). Some (w ++ n ∷ [])) (sym l.name_is),
    )

pub next-directory-spot : (files directories : List (Option Entry)) (v : TreeValue) → value_of files directories ≡ v → AreSound files directories → (d : ℕ) (w : List Name) → way_of v d ≡ Some w → (after : Option Name)
    → (k : ℕ) (best : IsLeastPlace d after directories (length directories) k) → ((j : ℕ) (other : Name) → listed_name d after (slot files j) ≡ Some other → name_cmp best.name other ≢ Greater)
    → IsNextSpot v w after (directory_spot (k + 1) (slot directories k))
unfolding value_of
next-directory-spot files directories v is sound d w h after k best low =
    let parent = way-found files directories v is d w h in
    let l = listed-some d after (slot directories k) best.name best.is in
    let number : k + 1 ≡ suc k = omega arith in
    subst (λ (o : Option Spot). IsNextSpot v w after o) (sym (ap (directory_spot (k + 1)) l.is)) (
      ap (way_of v) (listed-parent d after (slot directories k) best.name l) ∙ h,
      ap (λ (v : TreeValue). next_entry v.nodes w after) (sym is) ∙ next-directory files directories sound d w parent after k best low ∙ ap (λ (n : Name). Some (n, directory)) (sym l.name_is),
      ap (way_of v) number ∙ ap (λ (v : TreeValue). slot v.directories k) (sym is) ∙ directory-path files directories sound d w parent after k best.name best.is ∙ ap (λ (n : Name). Some (w ++ n ∷ [])) (sym l.name_is),
    )

pub next-no-spot : (files directories : List (Option Entry)) (v : TreeValue) → value_of files directories ≡ v → AreSound files directories → (d : ℕ) (w : List Name) → way_of v d ≡ Some w → (after : Option Name)
    → ((j : ℕ) → j < length files → listed_name d after (slot files j) ≡ None) → ((j : ℕ) → j < length directories → listed_name d after (slot directories j) ≡ None)
    → IsNextSpot v w after None
unfolding value_of
next-no-spot files directories v is sound d w h after no_files no_directories =
    ap (λ (v : TreeValue). next_entry v.nodes w after) (sym is) ∙ next-nothing files directories sound d w (way-found files directories v is d w h) after no_files no_directories

-- ---- a directory without entries

spot-next : (v : TreeValue) (w : List Name) (o : Option Spot) → IsSome o → IsNextSpot v w None o → (e : Name × Node ℕ) × (next_entry v.nodes w None ≡ Some e)
spot-next v w None s h = absurd (let e : false ≡ true = s in cc)
spot-next v w (Some (File parent node name)) s h = ((name, file node.0), h.1)
spot-next v w (Some (Directory parent node name)) s h = ((name, directory), h.1)
spot-next v w (Some (Free parent)) s h = absurd h
spot-next v w (Some Root) s h = absurd h

pub spot-within : (v : TreeValue) (w : List Name) (o : Option Spot) → IsSome o → IsNextSpot v w None o → 1 ≤ length (entries_within v.nodes w)
spot-within v w o s h = let n = spot-next v w o s h in something-within (entries_within v.nodes w) n.0 n.1

pub no-spot-within : (v : TreeValue) (w : List Name) (o : Option Spot) → o ≡ None → IsNextSpot v w None o → entries_within v.nodes w ≡ []
no-spot-within v w o e h = nothing-within (entries_within v.nodes w) (subst (λ (o : Option Spot). IsNextSpot v w None o) e h)

module _ (files directories : List (Option Entry)) (sound : AreSound files directories) (d : ℕ) (w : List Name) (parent : way directories 6 d ≡ Some w)
    (none : entries_within (nodes_of (paths directories files) (paths directories directories)) w ≡ []) where
  -- no entry has a parent in which nothing stands
  file-elsewhere : (i : ℕ) (e : Entry) → slot files i ≡ Some e → e.parent.0 ≢ d
  file-elsewhere i e h p =
      let path = child-path files directories sound files sound.file_parents d w parent e.name i (record { entry = e; is = h; parent_is = p; name_is = refl }) in
      found-within _ w e.name (file i) (at_found (paths directories files) (paths directories directories) sound.distinct (in_file i) (w ++ e.name ∷ []) path) none

  directory-elsewhere : (i : ℕ) (e : Entry) → slot directories i ≡ Some e → e.parent.0 ≢ d
  directory-elsewhere i e h p =
      let path = child-path files directories sound directories sound.directory_parents d w parent e.name i (record { entry = e; is = h; parent_is = p; name_is = refl }) in
      found-within _ w e.name directory (at_found (paths directories files) (paths directories directories) sound.distinct (in_directory i) (w ++ e.name ∷ []) path) none

pub removed_directory : (files directories : List (Option Entry)) (v : TreeValue) → value_of files directories ≡ v → AreSound files directories → (d k : ℕ) → d ≡ suc k → (w : List Name) → way_of v d ≡ Some w
    → entries_within v.nodes w ≡ [] → Becomes files (set directories k None) (without_directory v k w)
unfolding value_of
removed_directory files directories v is sound d k number w h none =
    let parent = way-found files directories v is d w h in
    let was : slot (paths directories directories) k ≡ Some w = ap (λ (v : TreeValue). slot v.directories k) is ∙ ap (way_of v) (sym number) ∙ h in
    let within : k < length directories = directories-within files directories v is k (is_some (ap (way_of v) (sym number) ∙ h)) in
    let empty : entries_within (nodes_of (paths directories files) (paths directories directories)) w ≡ [] = ap (λ (v : TreeValue). entries_within v.nodes w) is ∙ none in
    let b = directory_removed files directories sound k w was within
    (λ i e s p. file-elsewhere files directories sound d w parent empty i e s (p ∙ sym number))
    (λ i e s p. directory-elsewhere files directories sound d w parent empty i e s (p ∙ sym number)) in
    record { sound = b.sound; is = b.is ∙ ap (λ (v : TreeValue). without_directory v k w) is }

-- ---- a listing, by what each table has

pub unwrapped : (o : Option (List Name)) → IsSome o → o ≡ Some (unwrap_or o [])
unwrapped None h = absurd (let e : false ≡ true = h in cc)
unwrapped (Some w) h = refl

pub none-is : {A : Type 0} (o : Option A) → is_some_answer o ≡ false → o ≡ None
none-is None h = refl
none-is (Some x) h = absurd cc

module _ (files directories : List (Option Entry)) (v : TreeValue) (is : value_of files directories ≡ v) (sound : AreSound files directories) (d : ℕ) (used : IsSome (way_of v d)) (after : Option Name) where
  pub only-file : (f : ℕ) → IsLeastPlace d after files (length files) f → IsLeastBelow d after directories (length directories) None
      → IsNextSpot v (unwrap_or (way_of v d) []) after (file_spot f (slot files f))
  only-file f best none = let h = unwrapped (way_of v d) used in
      next-file-spot files directories v is sound d (unwrap_or (way_of v d) []) h after f best
      (low-over-none files directories sound d _ (way-found files directories v is d _ h) after directories best.name none)

  pub only-directory : (k : ℕ) → IsLeastPlace d after directories (length directories) k → IsLeastBelow d after files (length files) None
      → IsNextSpot v (unwrap_or (way_of v d) []) after (directory_spot (k + 1) (slot directories k))
  only-directory k best none = let h = unwrapped (way_of v d) used in
      next-directory-spot files directories v is sound d (unwrap_or (way_of v d) []) h after k best
      (low-over-none files directories sound d _ (way-found files directories v is d _ h) after files best.name none)

  pub neither : IsLeastBelow d after files (length files) None → IsLeastBelow d after directories (length directories) None → IsNextSpot v (unwrap_or (way_of v d) []) after None
  neither no_files no_directories = next-no-spot files directories v is sound d (unwrap_or (way_of v d) []) (unwrapped (way_of v d) used) after no_files no_directories

  pub directory-first : (f k : ℕ) → IsLeastPlace d after files (length files) f → IsLeastPlace d after directories (length directories) k → is_second_first (slot files f) (slot directories k) ≡ true
      → IsNextSpot v (unwrap_or (way_of v d) []) after (directory_spot (k + 1) (slot directories k))
  directory-first f k first second t = let h = unwrapped (way_of v d) used in
      let lt : is_lt (name_cmp second.name first.name) ≡ true = sym (second-first (slot files f) (slot directories k) d d after after first.name second.name first.is second.is) ∙ t in
      next-directory-spot files directories v is sound d (unwrap_or (way_of v d) []) h after k second
      (low-over-best files directories sound d _ (way-found files directories v is d _ h) after files second.name f first (not-greater (name_cmp second.name first.name) (lt-less (name_cmp second.name first.name) lt)))

  pub file-first : (f k : ℕ) → IsLeastPlace d after files (length files) f → IsLeastPlace d after directories (length directories) k → is_second_first (slot files f) (slot directories k) ≡ false
      → IsNextSpot v (unwrap_or (way_of v d) []) after (file_spot f (slot files f))
  file-first f k first second t = let h = unwrapped (way_of v d) used in
      let not_lt : is_lt (name_cmp second.name first.name) ≡ false = sym (second-first (slot files f) (slot directories k) d d after after first.name second.name first.is second.is) ∙ t in
      next-file-spot files directories v is sound d (unwrap_or (way_of v d) []) h after f first
      (low-over-best files directories sound d _ (way-found files directories v is d _ h) after directories first.name k second (not-lt-low second.name first.name not_lt))
