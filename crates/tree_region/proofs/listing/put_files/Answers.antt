use Rattle.std.proofs.Common.{◌≡◌, ◌+◌, ◌<◌, ◌≤◌, ◌++◌, [], ℕ, List, length, take, refl, subst, sym, ◌∙◌, arith, slice_index_or}
use Rattle.std.proofs.lemmas.List.{get_or_read}
use Rattle.tree_region.specs.GoodNumbers.{size_blocks}
use Rattle.tree_region.specs.Words.{words}
use Rattle.tree_region.proofs.FileNumbers.{IsListed, listed-start, listed-room, listed-next, listed-end, listed-count}
use Rattle.tree_region.proofs.listing.put_files.Goals as goal

pub loop-k-init : goal.loop-k-init
loop-k-init c = record { long = refl; listed = listed-start c.args.tree.now c.args.files.now c.args.bytes.now }

pub put_file-requires-clause-room : goal.put_file-requires-clause-room
put_file-requires-clause-room c =
    let v = c.args.tree.now in
    let lists = c.args.files.now in
    let k = c.loop-k.k in
    let less : c.loop-k.k < length c.args.files.now = search arith in
    let own : slice_index_or lists k [] ≡ c.index-files-k.result = sym (get_or_read lists k c.index-files-k.result less c.index-files-k.is []) in
    let fits : size_blocks v k ≤ length c.index-files-k.result = subst (λ (l : List ℕ). size_blocks v k ≤ length l) own (c.requires.fits k less) in
    let room = listed-room v lists k c.loop-k.written (words c.loop-k.written c.loop-k.bytes) c.loop-k.invariant.listed c.index-files-k.result less c.index-files-k.is fits in
    omega (arith, room, c.blocks_of_file-count.ensures, c.loop-k.invariant.long, c.requires.room)

pub overflow_add-written : goal.overflow_add-written
overflow_add-written c =
    let v = c.args.tree.now in
    let lists = c.args.files.now in
    let k = c.loop-k.k in
    let less : c.loop-k.k < length c.args.files.now = search arith in
    let own : slice_index_or lists k [] ≡ c.index-files-k.result = sym (get_or_read lists k c.index-files-k.result less c.index-files-k.is []) in
    let fits : size_blocks v k ≤ length c.index-files-k.result = subst (λ (l : List ℕ). size_blocks v k ≤ length l) own (c.requires.fits k less) in
    let room = listed-room v lists k c.loop-k.written (words c.loop-k.written c.loop-k.bytes) c.loop-k.invariant.listed c.index-files-k.result less c.index-files-k.is fits in
    let few : c.loop-k.written + c.blocks_of_file-count.result ≤ length c.loop-k.bytes = omega (arith, room, c.blocks_of_file-count.ensures, c.loop-k.invariant.long, c.requires.room) in
    search (arith, few)

pub loop-k-preserved : goal.loop-k-preserved
loop-k-preserved c =
    let v = c.args.tree.now in
    let lists = c.args.files.now in
    let k = c.loop-k.k in
    let less : c.loop-k.k < length c.args.files.now = search arith in
    let own : slice_index_or lists k [] ≡ c.index-files-k.result = sym (get_or_read lists k c.index-files-k.result less c.index-files-k.is []) in
    let fits : size_blocks v k ≤ length c.index-files-k.result = subst (λ (l : List ℕ). size_blocks v k ≤ length l) own (c.requires.fits k less) in
    let next = listed-next v lists k c.loop-k.written (words c.loop-k.written c.loop-k.bytes) c.loop-k.invariant.listed c.index-files-k.result less c.index-files-k.is fits in
    record {
      long = c.put_file.ensures.long ∙ c.loop-k.invariant.long;
      listed = subst (λ (ns : List ℕ). IsListed v lists (k + 1) (c.loop-k.written + c.blocks_of_file-count.result) ns) (sym c.put_file.ensures.words)
          (subst (λ n. IsListed v lists (k + 1) (c.loop-k.written + n) (words c.loop-k.written c.loop-k.bytes ++ take n c.index-files-k.result)) (sym c.blocks_of_file-count.ensures) next);
    }

pub returns-clause-count : goal.returns-clause-count
returns-clause-count c = listed-count c.args.tree.now c.args.files.now c.loop-k.k c.loop-k.written (words c.loop-k.written c.loop-k.bytes) c.loop-k.invariant.listed (search arith)

pub returns-clause-words : goal.returns-clause-words
returns-clause-words c = listed-end c.args.tree.now c.args.files.now c.loop-k.k c.loop-k.written (words c.loop-k.written c.loop-k.bytes) c.loop-k.invariant.listed (search arith)
