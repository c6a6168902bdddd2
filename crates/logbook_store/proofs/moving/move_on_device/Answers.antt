use Rattle.std.proofs.Common.{ℕ, List, sym, ◌∙◌, subst, arith}
use Rattle.rig_core.specs.Leaves.{Leaves}
use Rattle.rig_core.proofs.Moments.{leaves_then, leaves_weaker}
use Rattle.logbook_store.specs.Logs.{site_of, sites_of, AreBeforeOrAfter}
use Rattle.logbook_store.specs.Moves.{OpenGate, NextBody, NextGate, NextPlace, OfOne, SameBut, FromNowBut, moved_all}
use Rattle.logbook_store.proofs.Beside.{site_at}
use Rattle.logbook_store.proofs.But.{but_itself, but_then, same_itself, same_then}
use Rattle.logbook_store.proofs.Together.{in_regions, open_inside, body_inside, next_inside, closing_all, writing_all, opening_all, closing_stand, writing_stand, all_moved_in}
use Rattle.logbook_store.proofs.moving.move_on_device.Goals as goal

pub returns-in_err-close_gates-clause-any_moment : goal.returns-in_err-close_gates-clause-any_moment
returns-in_err-close_gates-clause-any_moment g c logbooks tells stand =
    let books = c.args.books.now in
    let size = (g.R.Rig.state c.args.rig.now).size in
    let laid = c.requires.laid_out in
    let V = g.R.Rig.tells_view in
    let K = g.R.Rig.keeps_cuts in
    let o = g.R.Rig.state c.args.rig.now in
    let one = g.R.Rig.state c.close_gates.new.rig in
    let Q : List ℕ → Type 0 = AreBeforeOrAfter (sites_of books) logbooks (moved_all (sites_of books) logbooks) in
    let sound = g.met.R.Rig.sound c.args.rig.now in
    let first : Leaves Q o one = leaves_weaker (FromNowBut (OfOne (OpenGate o.view) books) o) Q o one (λ image from.
    closing_all books o.view image logbooks (from.3.long ∙ sound.image_fills o.clock from.0 from.1 from.2 ∙ sym (sound.view_fills tells)) stand
    (λ j book at k low high out. in_regions (OpenGate o.view) (open_inside o.view) books size laid from.0 image from.3 j book at k low high out ∙ (c.requires.settled j (site_of book) (site_at books j book at) from.0 from.1 from.2).within k low high))
    c.close_gates.ensures.cuts in
    first

pub returns-in_err-close_gates-clause-outside : goal.returns-in_err-close_gates-clause-outside
returns-in_err-close_gates-clause-outside g c =
    let books = c.args.books.now in
    let size = (g.R.Rig.state c.args.rig.now).size in
    let laid = c.requires.laid_out in
    let V = g.R.Rig.tells_view in
    let K = g.R.Rig.keeps_cuts in
    let o = g.R.Rig.state c.args.rig.now in
    let one = g.R.Rig.state c.close_gates.new.rig in
    let A : ℕ → Type 0 = OfOne NextPlace books in
    let B1 : ℕ → Type 0 = OfOne (OpenGate o.view) books in
    let B2 : ℕ → Type 0 = OfOne NextBody books in
    let B3 : ℕ → Type 0 = OfOne NextGate books in
    let in1 : (k : ℕ) → B1 k → (A k → ⊥) → ⊥ = λ k at out. out (at.0, at.1, at.2, (at.3.0, omega (arith, at.3.1), omega (arith, at.3.1))) in
    let in2 : (k : ℕ) → B2 k → (A k → ⊥) → ⊥ = λ k at out. out (at.0, at.1, at.2, (at.3.0, omega (arith, at.3.1), at.3.2)) in
    let in3 : (k : ℕ) → B3 k → (A k → ⊥) → ⊥ = λ k at out. out (at.0, at.1, at.2, (at.3.0, omega (arith, at.3.1), omega (arith, at.3.1))) in
    let out1 = but_then V K A B1 o o one (g.met.R.Rig.sound c.args.rig.now) (λ tells. in1) (but_itself V K A o) c.close_gates.ensures.cuts in
    out1

pub returns-in_err-close_gates-clause-outside_view : goal.returns-in_err-close_gates-clause-outside_view
returns-in_err-close_gates-clause-outside_view g c tells =
    let books = c.args.books.now in
    let size = (g.R.Rig.state c.args.rig.now).size in
    let laid = c.requires.laid_out in
    let V = g.R.Rig.tells_view in
    let K = g.R.Rig.keeps_cuts in
    let o = g.R.Rig.state c.args.rig.now in
    let one = g.R.Rig.state c.close_gates.new.rig in
    let A : ℕ → Type 0 = OfOne NextPlace books in
    let B1 : ℕ → Type 0 = OfOne (OpenGate o.view) books in
    let B2 : ℕ → Type 0 = OfOne NextBody books in
    let B3 : ℕ → Type 0 = OfOne NextGate books in
    let in1 : (k : ℕ) → B1 k → (A k → ⊥) → ⊥ = λ k at out. out (at.0, at.1, at.2, (at.3.0, omega (arith, at.3.1), omega (arith, at.3.1))) in
    let in2 : (k : ℕ) → B2 k → (A k → ⊥) → ⊥ = λ k at out. out (at.0, at.1, at.2, (at.3.0, omega (arith, at.3.1), at.3.2)) in
    let in3 : (k : ℕ) → B3 k → (A k → ⊥) → ⊥ = λ k at out. out (at.0, at.1, at.2, (at.3.0, omega (arith, at.3.1), omega (arith, at.3.1))) in
    let see1 = same_then A B1 o.view o.view one.view in1 (same_itself A o.view) (c.close_gates.ensures.view tells) in
    see1

pub returns-in_err-write_bodies-clause-any_moment : goal.returns-in_err-write_bodies-clause-any_moment
returns-in_err-write_bodies-clause-any_moment g c logbooks tells stand =
    let books = c.args.books.now in
    let size = (g.R.Rig.state c.args.rig.now).size in
    let laid = c.requires.laid_out in
    let V = g.R.Rig.tells_view in
    let K = g.R.Rig.keeps_cuts in
    let o = g.R.Rig.state c.args.rig.now in
    let one = g.R.Rig.state c.close_gates.new.rig in
    let Q : List ℕ → Type 0 = AreBeforeOrAfter (sites_of books) logbooks (moved_all (sites_of books) logbooks) in
    let sound = g.met.R.Rig.sound c.args.rig.now in
    let first : Leaves Q o one = leaves_weaker (FromNowBut (OfOne (OpenGate o.view) books) o) Q o one (λ image from.
    closing_all books o.view image logbooks (from.3.long ∙ sound.image_fills o.clock from.0 from.1 from.2 ∙ sym (sound.view_fills tells)) stand
    (λ j book at k low high out. in_regions (OpenGate o.view) (open_inside o.view) books size laid from.0 image from.3 j book at k low high out ∙ (c.requires.settled j (site_of book) (site_at books j book at) from.0 from.1 from.2).within k low high))
    c.close_gates.ensures.cuts in
    let view1 = c.close_gates.ensures.view tells in
    let stand1 = closing_stand books o.view one.view logbooks view1.long stand (in_regions (OpenGate o.view) (open_inside o.view) books size laid o.view one.view view1) in
    let shut = c.in_ok-close_gates.ensures.closed tells in
    let two = g.R.Rig.state c.write_bodies.new.rig in
    let second : Leaves Q one two = leaves_weaker (FromNowBut (OfOne NextBody books) one) Q one two (λ image from.
    let is = c.in_ok-close_gates.ensures.settled from.0 from.1 from.2 in
    let same = subst (λ (f : List ℕ). SameBut (OfOne NextBody books) f image) is from.3 in
    writing_all books one.view image logbooks same.long stand1 shut (in_regions NextBody body_inside books size laid one.view image same))
    c.write_bodies.ensures.cuts in
    leaves_then Q o one two first second

pub returns-in_err-write_bodies-clause-outside : goal.returns-in_err-write_bodies-clause-outside
returns-in_err-write_bodies-clause-outside g c =
    let books = c.args.books.now in
    let size = (g.R.Rig.state c.args.rig.now).size in
    let laid = c.requires.laid_out in
    let V = g.R.Rig.tells_view in
    let K = g.R.Rig.keeps_cuts in
    let o = g.R.Rig.state c.args.rig.now in
    let one = g.R.Rig.state c.close_gates.new.rig in
    let two = g.R.Rig.state c.write_bodies.new.rig in
    let A : ℕ → Type 0 = OfOne NextPlace books in
    let B1 : ℕ → Type 0 = OfOne (OpenGate o.view) books in
    let B2 : ℕ → Type 0 = OfOne NextBody books in
    let B3 : ℕ → Type 0 = OfOne NextGate books in
    let in1 : (k : ℕ) → B1 k → (A k → ⊥) → ⊥ = λ k at out. out (at.0, at.1, at.2, (at.3.0, omega (arith, at.3.1), omega (arith, at.3.1))) in
    let in2 : (k : ℕ) → B2 k → (A k → ⊥) → ⊥ = λ k at out. out (at.0, at.1, at.2, (at.3.0, omega (arith, at.3.1), at.3.2)) in
    let in3 : (k : ℕ) → B3 k → (A k → ⊥) → ⊥ = λ k at out. out (at.0, at.1, at.2, (at.3.0, omega (arith, at.3.1), omega (arith, at.3.1))) in
    let out1 = but_then V K A B1 o o one (g.met.R.Rig.sound c.args.rig.now) (λ tells. in1) (but_itself V K A o) c.close_gates.ensures.cuts in
    let out2 = but_then V K A B2 o one two (g.met.R.Rig.sound c.close_gates.new.rig) (λ tells. in2) out1 c.write_bodies.ensures.cuts in
    out2

pub returns-in_err-write_bodies-clause-outside_view : goal.returns-in_err-write_bodies-clause-outside_view
returns-in_err-write_bodies-clause-outside_view g c tells =
    let books = c.args.books.now in
    let size = (g.R.Rig.state c.args.rig.now).size in
    let laid = c.requires.laid_out in
    let V = g.R.Rig.tells_view in
    let K = g.R.Rig.keeps_cuts in
    let o = g.R.Rig.state c.args.rig.now in
    let one = g.R.Rig.state c.close_gates.new.rig in
    let two = g.R.Rig.state c.write_bodies.new.rig in
    let A : ℕ → Type 0 = OfOne NextPlace books in
    let B1 : ℕ → Type 0 = OfOne (OpenGate o.view) books in
    let B2 : ℕ → Type 0 = OfOne NextBody books in
    let B3 : ℕ → Type 0 = OfOne NextGate books in
    let in1 : (k : ℕ) → B1 k → (A k → ⊥) → ⊥ = λ k at out. out (at.0, at.1, at.2, (at.3.0, omega (arith, at.3.1), omega (arith, at.3.1))) in
    let in2 : (k : ℕ) → B2 k → (A k → ⊥) → ⊥ = λ k at out. out (at.0, at.1, at.2, (at.3.0, omega (arith, at.3.1), at.3.2)) in
    let in3 : (k : ℕ) → B3 k → (A k → ⊥) → ⊥ = λ k at out. out (at.0, at.1, at.2, (at.3.0, omega (arith, at.3.1), omega (arith, at.3.1))) in
    let see1 = same_then A B1 o.view o.view one.view in1 (same_itself A o.view) (c.close_gates.ensures.view tells) in
    let see2 = same_then A B2 o.view one.view two.view in2 see1 (c.write_bodies.ensures.view tells) in
    see2

pub returns-in_err-open_gates-clause-any_moment : goal.returns-in_err-open_gates-clause-any_moment
returns-in_err-open_gates-clause-any_moment g c logbooks tells stand =
    let books = c.args.books.now in
    let size = (g.R.Rig.state c.args.rig.now).size in
    let laid = c.requires.laid_out in
    let V = g.R.Rig.tells_view in
    let K = g.R.Rig.keeps_cuts in
    let o = g.R.Rig.state c.args.rig.now in
    let one = g.R.Rig.state c.close_gates.new.rig in
    let Q : List ℕ → Type 0 = AreBeforeOrAfter (sites_of books) logbooks (moved_all (sites_of books) logbooks) in
    let sound = g.met.R.Rig.sound c.args.rig.now in
    let first : Leaves Q o one = leaves_weaker (FromNowBut (OfOne (OpenGate o.view) books) o) Q o one (λ image from.
    closing_all books o.view image logbooks (from.3.long ∙ sound.image_fills o.clock from.0 from.1 from.2 ∙ sym (sound.view_fills tells)) stand
    (λ j book at k low high out. in_regions (OpenGate o.view) (open_inside o.view) books size laid from.0 image from.3 j book at k low high out ∙ (c.requires.settled j (site_of book) (site_at books j book at) from.0 from.1 from.2).within k low high))
    c.close_gates.ensures.cuts in
    let view1 = c.close_gates.ensures.view tells in
    let stand1 = closing_stand books o.view one.view logbooks view1.long stand (in_regions (OpenGate o.view) (open_inside o.view) books size laid o.view one.view view1) in
    let shut = c.in_ok-close_gates.ensures.closed tells in
    let two = g.R.Rig.state c.write_bodies.new.rig in
    let second : Leaves Q one two = leaves_weaker (FromNowBut (OfOne NextBody books) one) Q one two (λ image from.
    let is = c.in_ok-close_gates.ensures.settled from.0 from.1 from.2 in
    let same = subst (λ (f : List ℕ). SameBut (OfOne NextBody books) f image) is from.3 in
    writing_all books one.view image logbooks same.long stand1 shut (in_regions NextBody body_inside books size laid one.view image same))
    c.write_bodies.ensures.cuts in
    let view2 = c.write_bodies.ensures.view tells in
    let stand2 = writing_stand books one.view two.view logbooks view2.long stand1 shut (in_regions NextBody body_inside books size laid one.view two.view view2) in
    let written = c.in_ok-write_bodies.ensures.written tells in
    let three = g.R.Rig.state c.open_gates.new.rig in
    let third : Leaves Q two three = leaves_weaker (FromNowBut (OfOne NextGate books) two) Q two three (λ image from.
    let is = c.in_ok-write_bodies.ensures.settled from.0 from.1 from.2 in
    let same = subst (λ (f : List ℕ). SameBut (OfOne NextGate books) f image) is from.3 in
    opening_all books two.view image logbooks same.long stand2 written (in_regions NextGate next_inside books size laid two.view image same))
    c.open_gates.ensures.cuts in
    leaves_then Q o two three (leaves_then Q o one two first second) third

pub returns-in_err-open_gates-clause-outside : goal.returns-in_err-open_gates-clause-outside
returns-in_err-open_gates-clause-outside g c =
    let books = c.args.books.now in
    let size = (g.R.Rig.state c.args.rig.now).size in
    let laid = c.requires.laid_out in
    let V = g.R.Rig.tells_view in
    let K = g.R.Rig.keeps_cuts in
    let o = g.R.Rig.state c.args.rig.now in
    let one = g.R.Rig.state c.close_gates.new.rig in
    let two = g.R.Rig.state c.write_bodies.new.rig in
    let three = g.R.Rig.state c.open_gates.new.rig in
    let A : ℕ → Type 0 = OfOne NextPlace books in
    let B1 : ℕ → Type 0 = OfOne (OpenGate o.view) books in
    let B2 : ℕ → Type 0 = OfOne NextBody books in
    let B3 : ℕ → Type 0 = OfOne NextGate books in
    let in1 : (k : ℕ) → B1 k → (A k → ⊥) → ⊥ = λ k at out. out (at.0, at.1, at.2, (at.3.0, omega (arith, at.3.1), omega (arith, at.3.1))) in
    let in2 : (k : ℕ) → B2 k → (A k → ⊥) → ⊥ = λ k at out. out (at.0, at.1, at.2, (at.3.0, omega (arith, at.3.1), at.3.2)) in
    let in3 : (k : ℕ) → B3 k → (A k → ⊥) → ⊥ = λ k at out. out (at.0, at.1, at.2, (at.3.0, omega (arith, at.3.1), omega (arith, at.3.1))) in
    let out1 = but_then V K A B1 o o one (g.met.R.Rig.sound c.args.rig.now) (λ tells. in1) (but_itself V K A o) c.close_gates.ensures.cuts in
    let out2 = but_then V K A B2 o one two (g.met.R.Rig.sound c.close_gates.new.rig) (λ tells. in2) out1 c.write_bodies.ensures.cuts in
    let out3 = but_then V K A B3 o two three (g.met.R.Rig.sound c.write_bodies.new.rig) (λ tells. in3) out2 c.open_gates.ensures.cuts in
    out3

pub returns-in_err-open_gates-clause-outside_view : goal.returns-in_err-open_gates-clause-outside_view
returns-in_err-open_gates-clause-outside_view g c tells =
    let books = c.args.books.now in
    let size = (g.R.Rig.state c.args.rig.now).size in
    let laid = c.requires.laid_out in
    let V = g.R.Rig.tells_view in
    let K = g.R.Rig.keeps_cuts in
    let o = g.R.Rig.state c.args.rig.now in
    let one = g.R.Rig.state c.close_gates.new.rig in
    let two = g.R.Rig.state c.write_bodies.new.rig in
    let three = g.R.Rig.state c.open_gates.new.rig in
    let A : ℕ → Type 0 = OfOne NextPlace books in
    let B1 : ℕ → Type 0 = OfOne (OpenGate o.view) books in
    let B2 : ℕ → Type 0 = OfOne NextBody books in
    let B3 : ℕ → Type 0 = OfOne NextGate books in
    let in1 : (k : ℕ) → B1 k → (A k → ⊥) → ⊥ = λ k at out. out (at.0, at.1, at.2, (at.3.0, omega (arith, at.3.1), omega (arith, at.3.1))) in
    let in2 : (k : ℕ) → B2 k → (A k → ⊥) → ⊥ = λ k at out. out (at.0, at.1, at.2, (at.3.0, omega (arith, at.3.1), at.3.2)) in
    let in3 : (k : ℕ) → B3 k → (A k → ⊥) → ⊥ = λ k at out. out (at.0, at.1, at.2, (at.3.0, omega (arith, at.3.1), omega (arith, at.3.1))) in
    let see1 = same_then A B1 o.view o.view one.view in1 (same_itself A o.view) (c.close_gates.ensures.view tells) in
    let see2 = same_then A B2 o.view one.view two.view in2 see1 (c.write_bodies.ensures.view tells) in
    let see3 = same_then A B3 o.view two.view three.view in3 see2 (c.open_gates.ensures.view tells) in
    see3

pub returns-clause-any_moment : goal.returns-clause-any_moment
returns-clause-any_moment g c logbooks tells stand =
    let books = c.args.books.now in
    let size = (g.R.Rig.state c.args.rig.now).size in
    let laid = c.requires.laid_out in
    let V = g.R.Rig.tells_view in
    let K = g.R.Rig.keeps_cuts in
    let o = g.R.Rig.state c.args.rig.now in
    let one = g.R.Rig.state c.close_gates.new.rig in
    let Q : List ℕ → Type 0 = AreBeforeOrAfter (sites_of books) logbooks (moved_all (sites_of books) logbooks) in
    let sound = g.met.R.Rig.sound c.args.rig.now in
    let first : Leaves Q o one = leaves_weaker (FromNowBut (OfOne (OpenGate o.view) books) o) Q o one (λ image from.
    closing_all books o.view image logbooks (from.3.long ∙ sound.image_fills o.clock from.0 from.1 from.2 ∙ sym (sound.view_fills tells)) stand
    (λ j book at k low high out. in_regions (OpenGate o.view) (open_inside o.view) books size laid from.0 image from.3 j book at k low high out ∙ (c.requires.settled j (site_of book) (site_at books j book at) from.0 from.1 from.2).within k low high))
    c.close_gates.ensures.cuts in
    let view1 = c.close_gates.ensures.view tells in
    let stand1 = closing_stand books o.view one.view logbooks view1.long stand (in_regions (OpenGate o.view) (open_inside o.view) books size laid o.view one.view view1) in
    let shut = c.in_ok-close_gates.ensures.closed tells in
    let two = g.R.Rig.state c.write_bodies.new.rig in
    let second : Leaves Q one two = leaves_weaker (FromNowBut (OfOne NextBody books) one) Q one two (λ image from.
    let is = c.in_ok-close_gates.ensures.settled from.0 from.1 from.2 in
    let same = subst (λ (f : List ℕ). SameBut (OfOne NextBody books) f image) is from.3 in
    writing_all books one.view image logbooks same.long stand1 shut (in_regions NextBody body_inside books size laid one.view image same))
    c.write_bodies.ensures.cuts in
    let view2 = c.write_bodies.ensures.view tells in
    let stand2 = writing_stand books one.view two.view logbooks view2.long stand1 shut (in_regions NextBody body_inside books size laid one.view two.view view2) in
    let written = c.in_ok-write_bodies.ensures.written tells in
    let three = g.R.Rig.state c.open_gates.new.rig in
    let third : Leaves Q two three = leaves_weaker (FromNowBut (OfOne NextGate books) two) Q two three (λ image from.
    let is = c.in_ok-write_bodies.ensures.settled from.0 from.1 from.2 in
    let same = subst (λ (f : List ℕ). SameBut (OfOne NextGate books) f image) is from.3 in
    opening_all books two.view image logbooks same.long stand2 written (in_regions NextGate next_inside books size laid two.view image same))
    c.open_gates.ensures.cuts in
    leaves_then Q o two three (leaves_then Q o one two first second) third

pub returns-clause-outside : goal.returns-clause-outside
returns-clause-outside g c =
    let books = c.args.books.now in
    let size = (g.R.Rig.state c.args.rig.now).size in
    let laid = c.requires.laid_out in
    let V = g.R.Rig.tells_view in
    let K = g.R.Rig.keeps_cuts in
    let o = g.R.Rig.state c.args.rig.now in
    let one = g.R.Rig.state c.close_gates.new.rig in
    let two = g.R.Rig.state c.write_bodies.new.rig in
    let three = g.R.Rig.state c.open_gates.new.rig in
    let A : ℕ → Type 0 = OfOne NextPlace books in
    let B1 : ℕ → Type 0 = OfOne (OpenGate o.view) books in
    let B2 : ℕ → Type 0 = OfOne NextBody books in
    let B3 : ℕ → Type 0 = OfOne NextGate books in
    let in1 : (k : ℕ) → B1 k → (A k → ⊥) → ⊥ = λ k at out. out (at.0, at.1, at.2, (at.3.0, omega (arith, at.3.1), omega (arith, at.3.1))) in
    let in2 : (k : ℕ) → B2 k → (A k → ⊥) → ⊥ = λ k at out. out (at.0, at.1, at.2, (at.3.0, omega (arith, at.3.1), at.3.2)) in
    let in3 : (k : ℕ) → B3 k → (A k → ⊥) → ⊥ = λ k at out. out (at.0, at.1, at.2, (at.3.0, omega (arith, at.3.1), omega (arith, at.3.1))) in
    let out1 = but_then V K A B1 o o one (g.met.R.Rig.sound c.args.rig.now) (λ tells. in1) (but_itself V K A o) c.close_gates.ensures.cuts in
    let out2 = but_then V K A B2 o one two (g.met.R.Rig.sound c.close_gates.new.rig) (λ tells. in2) out1 c.write_bodies.ensures.cuts in
    let out3 = but_then V K A B3 o two three (g.met.R.Rig.sound c.write_bodies.new.rig) (λ tells. in3) out2 c.open_gates.ensures.cuts in
    out3

pub returns-clause-outside_view : goal.returns-clause-outside_view
returns-clause-outside_view g c tells =
    let books = c.args.books.now in
    let size = (g.R.Rig.state c.args.rig.now).size in
    let laid = c.requires.laid_out in
    let V = g.R.Rig.tells_view in
    let K = g.R.Rig.keeps_cuts in
    let o = g.R.Rig.state c.args.rig.now in
    let one = g.R.Rig.state c.close_gates.new.rig in
    let two = g.R.Rig.state c.write_bodies.new.rig in
    let three = g.R.Rig.state c.open_gates.new.rig in
    let A : ℕ → Type 0 = OfOne NextPlace books in
    let B1 : ℕ → Type 0 = OfOne (OpenGate o.view) books in
    let B2 : ℕ → Type 0 = OfOne NextBody books in
    let B3 : ℕ → Type 0 = OfOne NextGate books in
    let in1 : (k : ℕ) → B1 k → (A k → ⊥) → ⊥ = λ k at out. out (at.0, at.1, at.2, (at.3.0, omega (arith, at.3.1), omega (arith, at.3.1))) in
    let in2 : (k : ℕ) → B2 k → (A k → ⊥) → ⊥ = λ k at out. out (at.0, at.1, at.2, (at.3.0, omega (arith, at.3.1), at.3.2)) in
    let in3 : (k : ℕ) → B3 k → (A k → ⊥) → ⊥ = λ k at out. out (at.0, at.1, at.2, (at.3.0, omega (arith, at.3.1), omega (arith, at.3.1))) in
    let see1 = same_then A B1 o.view o.view one.view in1 (same_itself A o.view) (c.close_gates.ensures.view tells) in
    let see2 = same_then A B2 o.view one.view two.view in2 see1 (c.write_bodies.ensures.view tells) in
    let see3 = same_then A B3 o.view two.view three.view in3 see2 (c.open_gates.ensures.view tells) in
    see3

pub returns-clause-moved : goal.returns-clause-moved
returns-clause-moved g c logbooks tells stand =
    let books = c.args.books.now in
    let size = (g.R.Rig.state c.args.rig.now).size in
    let laid = c.requires.laid_out in
    let V = g.R.Rig.tells_view in
    let K = g.R.Rig.keeps_cuts in
    let o = g.R.Rig.state c.args.rig.now in
    let one = g.R.Rig.state c.close_gates.new.rig in
    let view1 = c.close_gates.ensures.view tells in
    let stand1 = closing_stand books o.view one.view logbooks view1.long stand (in_regions (OpenGate o.view) (open_inside o.view) books size laid o.view one.view view1) in
    let shut = c.in_ok-close_gates.ensures.closed tells in
    let two = g.R.Rig.state c.write_bodies.new.rig in
    let view2 = c.write_bodies.ensures.view tells in
    let stand2 = writing_stand books one.view two.view logbooks view2.long stand1 shut (in_regions NextBody body_inside books size laid one.view two.view view2) in
    let written = c.in_ok-write_bodies.ensures.written tells in
    let three = g.R.Rig.state c.open_gates.new.rig in
    let view3 = c.open_gates.ensures.view tells in
    all_moved_in books two.view three.view logbooks view3.long stand2 written (c.in_ok-open_gates.ensures.opened tells) (in_regions NextGate next_inside books size laid two.view three.view view3)

pub returns-in_err-close_gates-clause-shown : goal.returns-in_err-close_gates-clause-shown
returns-in_err-close_gates-clause-shown g c logbooks tells stand =
    let books = c.args.books.now in
    let size = (g.R.Rig.state c.args.rig.now).size in
    let laid = c.requires.laid_out in
    let o = g.R.Rig.state c.args.rig.now in
    let one = g.R.Rig.state c.close_gates.new.rig in
    let view1 = c.close_gates.ensures.view tells in
    closing_all books o.view one.view logbooks view1.long stand (in_regions (OpenGate o.view) (open_inside o.view) books size laid o.view one.view view1)

pub returns-in_err-write_bodies-clause-shown : goal.returns-in_err-write_bodies-clause-shown
returns-in_err-write_bodies-clause-shown g c logbooks tells stand =
    let books = c.args.books.now in
    let size = (g.R.Rig.state c.args.rig.now).size in
    let laid = c.requires.laid_out in
    let o = g.R.Rig.state c.args.rig.now in
    let one = g.R.Rig.state c.close_gates.new.rig in
    let view1 = c.close_gates.ensures.view tells in
    let stand1 = closing_stand books o.view one.view logbooks view1.long stand (in_regions (OpenGate o.view) (open_inside o.view) books size laid o.view one.view view1) in
    let shut = c.in_ok-close_gates.ensures.closed tells in
    let two = g.R.Rig.state c.write_bodies.new.rig in
    let view2 = c.write_bodies.ensures.view tells in
    writing_all books one.view two.view logbooks view2.long stand1 shut (in_regions NextBody body_inside books size laid one.view two.view view2)

pub returns-in_err-open_gates-clause-shown : goal.returns-in_err-open_gates-clause-shown
returns-in_err-open_gates-clause-shown g c logbooks tells stand =
    let books = c.args.books.now in
    let size = (g.R.Rig.state c.args.rig.now).size in
    let laid = c.requires.laid_out in
    let o = g.R.Rig.state c.args.rig.now in
    let one = g.R.Rig.state c.close_gates.new.rig in
    let view1 = c.close_gates.ensures.view tells in
    let stand1 = closing_stand books o.view one.view logbooks view1.long stand (in_regions (OpenGate o.view) (open_inside o.view) books size laid o.view one.view view1) in
    let shut = c.in_ok-close_gates.ensures.closed tells in
    let two = g.R.Rig.state c.write_bodies.new.rig in
    let view2 = c.write_bodies.ensures.view tells in
    let stand2 = writing_stand books one.view two.view logbooks view2.long stand1 shut (in_regions NextBody body_inside books size laid one.view two.view view2) in
    let written = c.in_ok-write_bodies.ensures.written tells in
    let three = g.R.Rig.state c.open_gates.new.rig in
    let view3 = c.open_gates.ensures.view tells in
    opening_all books two.view three.view logbooks view3.long stand2 written (in_regions NextGate next_inside books size laid two.view three.view view3)

pub returns-clause-shown : goal.returns-clause-shown
returns-clause-shown g c logbooks tells stand =
    let books = c.args.books.now in
    let size = (g.R.Rig.state c.args.rig.now).size in
    let laid = c.requires.laid_out in
    let o = g.R.Rig.state c.args.rig.now in
    let one = g.R.Rig.state c.close_gates.new.rig in
    let view1 = c.close_gates.ensures.view tells in
    let stand1 = closing_stand books o.view one.view logbooks view1.long stand (in_regions (OpenGate o.view) (open_inside o.view) books size laid o.view one.view view1) in
    let shut = c.in_ok-close_gates.ensures.closed tells in
    let two = g.R.Rig.state c.write_bodies.new.rig in
    let view2 = c.write_bodies.ensures.view tells in
    let stand2 = writing_stand books one.view two.view logbooks view2.long stand1 shut (in_regions NextBody body_inside books size laid one.view two.view view2) in
    let written = c.in_ok-write_bodies.ensures.written tells in
    let three = g.R.Rig.state c.open_gates.new.rig in
    let view3 = c.open_gates.ensures.view tells in
    opening_all books two.view three.view logbooks view3.long stand2 written (in_regions NextGate next_inside books size laid two.view three.view view3)
