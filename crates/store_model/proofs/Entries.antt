-- The entries of a store's tree, and those of the tree of files that it stands for: the same paths in the same order.
use Rattle.std.proofs.Common.{◌≡◌, ◌≢◌, ℕ, ◌+◌, Bool, true, false, cond, not, T, ◌&&◌, List, [], ◌∷◌, refl, sym, ap, subst, ◌∙◌, Option, Some, None, IsTrue}
use Rattle.std.proofs.lemmas.List.Sums.{sum_by-cons}
use Rattle.std.specs.Prelude.{count_by, ⊤}
use Rattle.std.specs.declared.cmp.Ordering.{Ordering}
use Rattle.std.specs.declared.cmp.Ordering.TheVariants.{Less, Equal, Greater}
use Rattle.std.specs.Ordering.{is_lt, is_eq, eq_by_cmp, ordering_reverse}
use Rattle.std.specs.List.{AllZip}
use Rattle.std.specs.Map.{values_of}
use Rattle.std.specs.FinMap.Entries.{find, is_sorted, below_all, find-put, is_sorted-put, find-where_key, is_sorted-where_key}
use Rattle.apex_model.specs.Files.{File}
use Rattle.apex_model.specs.Trees.{Name, Node, directory, file, Tree, path_cmp, with_node, without_node, is_file, is_directory, file_count, directory_count}
use Rattle.apex_model.proofs.Trees.{path_cmp_total, path_cmp-IsAntisymmetric, same_path}
use Rattle.file_tree.proofs.Paths.{same_is}
use Rattle.store_model.specs.Stores.{KeptFile, StoreValue, kept_at, charge_at}
use Rattle.store_model.specs.Standing.{IsNode, IsEntry}

-- nothing at either of two places, or the same kind at both, and of a file what the store keeps of it
abbrev pub IsThere : StoreValue → Option (Node ℕ) → Option (Node File) → Type 0
IsThere v None None = ⊤
IsThere v None (Some n) = ⊥
IsThere v (Some m) None = ⊥
IsThere v (Some m) (Some n) = IsNode v m n

pub there-as : (v : StoreValue) (o p : Option (Node ℕ)) (q r : Option (Node File)) → o ≡ p → q ≡ r → IsThere v o q → IsThere v p r
there-as v o p q r a b h = subst (λ (p : Option (Node ℕ)). IsThere v p r) a (subst (λ (r : Option (Node File)). IsThere v o r) b h)

first-of : (a b : Bool) → T (a && b) → T a
first-of true b h = tt
first-of false b h = absurd h

second-of : (a b : Bool) → T (a && b) → T b
second-of true b h = h
second-of false b h = absurd h

less-is : (o : Ordering) → T (is_lt o) → o ≡ Less
less-is Less h = refl
less-is Equal h = absurd h
less-is Greater h = absurd h

lower-is : (o : Ordering) → o ≡ Less → T (is_lt o)
lower-is o h = subst (λ (o : Ordering). T (is_lt o)) (sym h) tt

both-are : (a b : Bool) → T a → T b → T (a && b)
both-are true b h k = k
both-are false b h k = absurd h

pub is-true : (b : Bool) → T b → IsTrue b
is-true true h = refl
is-true false h = absurd h

-- paths that don't tie are two
pub apart : {q k : List Name} → eq_by_cmp path_cmp q k ≡ false → q ≢ k
apart {q} {k} t same = let wrong : true ≡ false = sym (ap (eq_by_cmp path_cmp q) (sym same) ∙ same_is q) ∙ t in absurd cc

module _ {F : Type 0} where
  -- a path below all of a tree isn't in it
  missed : (q : List Name) (tree : List (List Name × F)) → T (below_all path_cmp q tree) → find path_cmp q tree ≡ None
  missed q [] h = refl
  missed q (e ∷ tree) h =
      ap (λ o. cond (is_eq o) (Some e.1) (find path_cmp q tree)) (less-is (path_cmp q e.0) (first-of (is_lt (path_cmp q e.0)) (below_all path_cmp q tree) h))
      ∙ missed q tree (second-of (is_lt (path_cmp q e.0)) (below_all path_cmp q tree) h)

  lower : (q r : List Name) (tree : List (List Name × F)) → path_cmp q r ≡ Less → T (below_all path_cmp r tree) → T (below_all path_cmp q tree)
  lower q r [] l h = tt
  lower q r (e ∷ tree) l h =
      both-are (is_lt (path_cmp q e.0)) (below_all path_cmp q tree)
      (lower-is (path_cmp q e.0) (path_cmp_total.trans q r e.0 l (less-is (path_cmp r e.0) (first-of (is_lt (path_cmp r e.0)) (below_all path_cmp r tree) h))))
      (lower q r tree l (second-of (is_lt (path_cmp r e.0)) (below_all path_cmp r tree) h))

  found-first : (q : List Name) (e : List Name × F) (tree : List (List Name × F)) → q ≡ e.0 → find path_cmp q (e ∷ tree) ≡ Some e.1
  found-first q e tree same = ap (λ b. cond b (Some e.1) (find path_cmp q tree)) (ap (eq_by_cmp path_cmp q) (sym same) ∙ same_is q)

  -- the first entry of a sorted tree is below another one's
  missed-first : (q : List Name) (e : List Name × F) (tree : List (List Name × F)) → T (is_sorted path_cmp (e ∷ tree)) → path_cmp q e.0 ≡ Less → find path_cmp q (e ∷ tree) ≡ None
  missed-first q e tree sorted l =
      missed q (e ∷ tree) (both-are (is_lt (path_cmp q e.0)) (below_all path_cmp q tree) (lower-is (path_cmp q e.0) l) (lower q e.0 tree l (first-of (below_all path_cmp e.0 tree) (is_sorted path_cmp tree) sorted)))

-- ---- entry by entry, and path by path

-- at each path the trees have the same
pub zip-find : (v : StoreValue) (q : List Name) (es : Tree ℕ) (fs : Tree File) → AllZip (IsEntry v) es fs → IsThere v (find path_cmp q es) (find path_cmp q fs)
zip-find v q [] [] z = tt
zip-find v q [] (f ∷ fs) z = absurd z
zip-find v q (e ∷ es) [] z = absurd z
zip-find v q (e ∷ es) (f ∷ fs) z =
    let rest = zip-find v q es fs z.1 in
    subst (λ (k : List Name). IsThere v (cond (eq_by_cmp path_cmp q e.0) (Some e.1) (find path_cmp q es)) (cond (eq_by_cmp path_cmp q k) (Some f.1) (find path_cmp q fs))) z.0.0
    (elim (eq_by_cmp path_cmp q e.0) as (λ b. IsThere v (cond b (Some e.1) (find path_cmp q es)) (cond b (Some f.1) (find path_cmp q fs))) [ true ↦ z.0.1 | false ↦ rest ])

zip-below : (v : StoreValue) (q : List Name) (es : Tree ℕ) (fs : Tree File) → AllZip (IsEntry v) es fs → below_all path_cmp q es ≡ below_all path_cmp q fs
zip-below v q [] [] z = refl
zip-below v q [] (f ∷ fs) z = absurd z
zip-below v q (e ∷ es) [] z = absurd z
zip-below v q (e ∷ es) (f ∷ fs) z = let rest = zip-below v q es fs z.1 in λ i. is_lt (path_cmp q (z.0.0 i)) && rest i

-- one is in order where the other is
pub zip-sorted : (v : StoreValue) (es : Tree ℕ) (fs : Tree File) → AllZip (IsEntry v) es fs → is_sorted path_cmp es ≡ is_sorted path_cmp fs
zip-sorted v [] [] z = refl
zip-sorted v [] (f ∷ fs) z = absurd z
zip-sorted v (e ∷ es) [] z = absurd z
zip-sorted v (e ∷ es) (f ∷ fs) z =
    let below : below_all path_cmp e.0 es ≡ below_all path_cmp f.0 fs = zip-below v e.0 es fs z.1 ∙ ap (λ (k : List Name). below_all path_cmp k fs) z.0.0 in
    let rest = zip-sorted v es fs z.1 in
    λ i. below i && rest i

zip-tails : (v : StoreValue) (e : List Name × Node ℕ) (f : List Name × Node File) (es : Tree ℕ) (fs : Tree File) → e.0 ≡ f.0 → T (below_all path_cmp e.0 es) → T (below_all path_cmp f.0 fs)
    → (q : List Name) → IsThere v (find path_cmp q (e ∷ es)) (find path_cmp q (f ∷ fs)) → IsThere v (find path_cmp q es) (find path_cmp q fs)
zip-tails v e f es fs keys g h q =
    (elim (eq_by_cmp path_cmp q e.0) as (λ b. eq_by_cmp path_cmp q e.0 ≡ b → IsThere v (cond b (Some e.1) (find path_cmp q es)) (find path_cmp q (f ∷ fs)) → IsThere v (find path_cmp q es) (find path_cmp q fs)) [
      | true ↦ λ t _. let same : q ≡ e.0 = same_path q e.0 t in
          there-as v None (find path_cmp q es) None (find path_cmp q fs) (sym (ap (λ (k : List Name). find path_cmp k es) same ∙ missed e.0 es g))
          (sym (ap (λ (k : List Name). find path_cmp k fs) (same ∙ keys) ∙ missed f.0 fs h)) tt
      | false ↦ λ t is. there-as v (find path_cmp q es) (find path_cmp q es) (find path_cmp q (f ∷ fs)) (find path_cmp q fs) refl
          (ap (λ b. cond b (Some f.1) (find path_cmp q fs)) (ap (eq_by_cmp path_cmp q) (sym keys) ∙ t)) is
    ]) refl

-- trees in order that have the same at each path are the same entry by entry
pub zip-from-finds : (v : StoreValue) (es : Tree ℕ) (fs : Tree File) → T (is_sorted path_cmp es) → T (is_sorted path_cmp fs)
    → ((q : List Name) → IsThere v (find path_cmp q es) (find path_cmp q fs)) → AllZip (IsEntry v) es fs
zip-from-finds v [] [] g h is = tt
zip-from-finds v [] (f ∷ fs) g h is = there-as v None None (find path_cmp f.0 (f ∷ fs)) (Some f.1) refl (found-first f.0 f fs refl) (is f.0)
zip-from-finds v (e ∷ es) [] g h is = there-as v (find path_cmp e.0 (e ∷ es)) (Some e.1) None None (found-first e.0 e es refl) refl (is e.0)
zip-from-finds v (e ∷ es) (f ∷ fs) g h is =
    (elim (path_cmp e.0 f.0) as (λ o. path_cmp e.0 f.0 ≡ o → AllZip (IsEntry v) (e ∷ es) (f ∷ fs)) [
      | Less ↦ λ l. absurd (there-as v (find path_cmp e.0 (e ∷ es)) (Some e.1) (find path_cmp e.0 (f ∷ fs)) None (found-first e.0 e es refl) (missed-first e.0 f fs h l) (is e.0))
      | Greater ↦ λ l. absurd (there-as v (find path_cmp f.0 (e ∷ es)) None (find path_cmp f.0 (f ∷ fs)) (Some f.1)
          (missed-first f.0 e es g (path_cmp_total.antisymm f.0 e.0 ∙ ap ordering_reverse l)) (found-first f.0 f fs refl) (is f.0))
      | Equal ↦ λ l.
          let keys : e.0 ≡ f.0 = path_cmp-IsAntisymmetric e.0 f.0 l in
          let value : IsNode v e.1 f.1 = there-as v (find path_cmp e.0 (e ∷ es)) (Some e.1) (find path_cmp e.0 (f ∷ fs)) (Some f.1) (found-first e.0 e es refl) (found-first e.0 f fs keys) (is e.0) in
          let below_e = first-of (below_all path_cmp e.0 es) (is_sorted path_cmp es) g in
          let below_f = first-of (below_all path_cmp f.0 fs) (is_sorted path_cmp fs) h in (
            (keys, value),
            zip-from-finds v es fs (second-of (below_all path_cmp e.0 es) (is_sorted path_cmp es) g) (second-of (below_all path_cmp f.0 fs) (is_sorted path_cmp fs) h)
                (λ q. zip-tails v e f es fs keys below_e below_f q (is q)),
          )
    ]) refl

-- ---- counts

pub same_kind : (v : StoreValue) (m : Node ℕ) (n : Node File) → IsNode v m n → is_file m ≡ is_file n
same_kind v directory directory h = refl
same_kind v directory (file g) h = absurd h
same_kind v (file f) directory h = absurd h
same_kind v (file f) (file g) h = refl

pub same_kind-directory : (v : StoreValue) (m : Node ℕ) (n : Node File) → IsNode v m n → is_directory m ≡ is_directory n
same_kind-directory v directory directory h = refl
same_kind-directory v directory (file g) h = absurd h
same_kind-directory v (file f) directory h = absurd h
same_kind-directory v (file f) (file g) h = refl

zip-count : (v : StoreValue) (test : Node ℕ → Bool) (of_file : Node File → Bool) → ((m : Node ℕ) (n : Node File) → IsNode v m n → test m ≡ of_file n) → (es : Tree ℕ) (fs : Tree File) → AllZip (IsEntry v) es fs
    → count_by test (values_of es) ≡ count_by of_file (values_of fs)
zip-count v test of_file alike [] [] z = refl
zip-count v test of_file alike [] (f ∷ fs) z = absurd z
zip-count v test of_file alike (e ∷ es) [] z = absurd z
zip-count v test of_file alike (e ∷ es) (f ∷ fs) z =
    let rest = zip-count v test of_file alike es fs z.1 in
    let same = alike e.1 f.1 z.0.1 in
    sum_by-cons (λ (m : Node ℕ). cond (test m) 1 0) e.1 (values_of es) ∙ (λ i. cond (same i) 1 0 + rest i) ∙ sym (sum_by-cons (λ (n : Node File). cond (of_file n) 1 0) f.1 (values_of fs))

pub zip-file_count : (v : StoreValue) (es : Tree ℕ) (fs : Tree File) → AllZip (IsEntry v) es fs → file_count es ≡ file_count fs
zip-file_count v es fs z = zip-count v is_file is_file (same_kind v) es fs z

pub zip-directory_count : (v : StoreValue) (es : Tree ℕ) (fs : Tree File) → AllZip (IsEntry v) es fs → directory_count es ≡ directory_count fs
zip-directory_count v es fs z = zip-count v is_directory is_directory (same_kind-directory v) es fs z

-- ---- one path changes

-- both get a node at a path
pub zip-put : (v : StoreValue) (k : List Name) (m : Node ℕ) (n : Node File) (es : Tree ℕ) (fs : Tree File) → T (is_sorted path_cmp es) → AllZip (IsEntry v) es fs → IsNode v m n
    → AllZip (IsEntry v) (with_node es k m) (with_node fs k n)
zip-put v k m n es fs sorted z node =
    zip-from-finds v (with_node es k m) (with_node fs k n) (is_sorted-put path_cmp path_cmp_total k m es sorted) (is_sorted-put path_cmp path_cmp_total k n fs (subst T (zip-sorted v es fs z) sorted))
    (λ q. there-as v (cond (eq_by_cmp path_cmp q k) (Some m) (find path_cmp q es)) (find path_cmp q (with_node es k m)) (cond (eq_by_cmp path_cmp q k) (Some n) (find path_cmp q fs)) (find path_cmp q (with_node fs k n))
    (sym (find-put path_cmp path_cmp_total q k m es)) (sym (find-put path_cmp path_cmp_total q k n fs))
    (elim (eq_by_cmp path_cmp q k) as (λ b. IsThere v (cond b (Some m) (find path_cmp q es)) (cond b (Some n) (find path_cmp q fs))) [ true ↦ node | false ↦ zip-find v q es fs z ]))

-- what is at a path after what stood at the same or at another was taken away
pub find-without : {F : Type 0} (q k : List Name) (tree : Tree F) → find path_cmp q (without_node tree k) ≡ cond (not (eq_by_cmp path_cmp k q)) (find path_cmp q tree) None
find-without q k tree =
    find-where_key path_cmp (λ key. not (eq_by_cmp path_cmp k key)) q (λ x t. ap (λ key. not (eq_by_cmp path_cmp k key)) (sym (path_cmp-IsAntisymmetric q x t))) tree

pub sorted-without : {F : Type 0} (k : List Name) (tree : Tree F) → T (is_sorted path_cmp tree) → T (is_sorted path_cmp (without_node tree k))
sorted-without k tree sorted = is_sorted-where_key path_cmp (λ key. not (eq_by_cmp path_cmp k key)) tree sorted

-- both lose what stood at a path
pub zip-without : (v : StoreValue) (k : List Name) (es : Tree ℕ) (fs : Tree File) → T (is_sorted path_cmp es) → AllZip (IsEntry v) es fs → AllZip (IsEntry v) (without_node es k) (without_node fs k)
zip-without v k es fs sorted z =
    zip-from-finds v (without_node es k) (without_node fs k) (sorted-without k es sorted) (sorted-without k fs (subst T (zip-sorted v es fs z) sorted))
    (λ q. there-as v (cond (not (eq_by_cmp path_cmp k q)) (find path_cmp q es) None) (find path_cmp q (without_node es k)) (cond (not (eq_by_cmp path_cmp k q)) (find path_cmp q fs) None) (find path_cmp q (without_node fs k))
    (sym (find-without q k es)) (sym (find-without q k fs))
    (elim (not (eq_by_cmp path_cmp k q)) as (λ b. IsThere v (cond b (find path_cmp q es) None) (cond b (find path_cmp q fs) None)) [ true ↦ zip-find v q es fs z | false ↦ tt ]))

-- ---- what is kept changes

-- of the files at these entries the same is kept
pub record SameKept (v w : StoreValue) (f : ℕ) : Type 0 where
  pub kept : kept_at v f ≡ kept_at w f
  pub charge : charge_at v f ≡ charge_at w f

pub there-kept : (v w : StoreValue) (o : Option (Node ℕ)) (q : Option (Node File)) → ((f : ℕ) → o ≡ Some (file f) → SameKept v w f) → IsThere v o q → IsThere w o q
there-kept v w None None same h = tt
there-kept v w None (Some n) same h = absurd h
there-kept v w (Some m) None same h = absurd h
there-kept v w (Some directory) (Some directory) same h = tt
there-kept v w (Some directory) (Some (file g)) same h = absurd h
there-kept v w (Some (file f)) (Some directory) same h = absurd h
there-kept v w (Some (file f)) (Some (file g)) same h =
    let s = same f refl in
    record {
      content = ap (λ (k : KeptFile). k.content) (sym s.kept) ∙ h.content;
      changes = ap (λ (k : KeptFile). k.changes) (sym s.kept) ∙ h.changes;
      charge = sym s.charge ∙ h.charge;
      durable = ap (λ (k : KeptFile). k.durable) (sym s.kept) ∙ h.durable;
    }

-- another file stands at a path, of which the store keeps something new
pub zip-changed : (v w : StoreValue) (k : List Name) (m : Node ℕ) (n : Node File) (es : Tree ℕ) (fs : Tree File) → T (is_sorted path_cmp es) → AllZip (IsEntry v) es fs → find path_cmp k es ≡ Some m → IsNode w m n
    → ((q : List Name) (f : ℕ) → q ≢ k → find path_cmp q es ≡ Some (file f) → SameKept v w f) → AllZip (IsEntry w) es (with_node fs k n)
zip-changed v w k m n es fs sorted z stands node same =
    zip-from-finds w es (with_node fs k n) sorted (is_sorted-put path_cmp path_cmp_total k n fs (subst T (zip-sorted v es fs z) sorted))
    (λ q. there-as w (find path_cmp q es) (find path_cmp q es) (cond (eq_by_cmp path_cmp q k) (Some n) (find path_cmp q fs)) (find path_cmp q (with_node fs k n)) refl (sym (find-put path_cmp path_cmp_total q k n fs))
    ((elim (eq_by_cmp path_cmp q k) as (λ b. eq_by_cmp path_cmp q k ≡ b → IsThere w (find path_cmp q es) (cond b (Some n) (find path_cmp q fs))) [
      | true ↦ λ t. there-as w (Some m) (find path_cmp q es) (Some n) (Some n) (sym (ap (λ (k : List Name). find path_cmp k es) (same_path q k t) ∙ stands)) refl node
      | false ↦ λ t. there-kept v w (find path_cmp q es) (find path_cmp q fs) (λ f h. same q f (apart t) h) (zip-find v q es fs z)
    ]) refl))

-- a path loses what stood there, and so does the store what it kept
pub zip-removed : (v w : StoreValue) (k : List Name) (es : Tree ℕ) (fs : Tree File) → T (is_sorted path_cmp es) → AllZip (IsEntry v) es fs
    → ((q : List Name) (f : ℕ) → q ≢ k → find path_cmp q es ≡ Some (file f) → SameKept v w f) → AllZip (IsEntry w) (without_node es k) (without_node fs k)
zip-removed v w k es fs sorted z same =
    zip-from-finds w (without_node es k) (without_node fs k) (sorted-without k es sorted) (sorted-without k fs (subst T (zip-sorted v es fs z) sorted))
    (λ q. there-as w (cond (not (eq_by_cmp path_cmp k q)) (find path_cmp q es) None) (find path_cmp q (without_node es k)) (cond (not (eq_by_cmp path_cmp k q)) (find path_cmp q fs) None) (find path_cmp q (without_node fs k))
    (sym (find-without q k es)) (sym (find-without q k fs))
    ((elim (eq_by_cmp path_cmp k q) as (λ b. eq_by_cmp path_cmp k q ≡ b → IsThere w (cond (not b) (find path_cmp q es) None) (cond (not b) (find path_cmp q fs) None)) [
      | true ↦ λ t. tt
      | false ↦ λ t. there-kept v w (find path_cmp q es) (find path_cmp q fs) (λ f h. same q f (λ e. apart t (sym e)) h) (zip-find v q es fs z)
    ]) refl))
