-- The line that tells a refusal, word after word.
use Rattle.std.proofs.Common.{◌≡◌, ℕ, List, [], ◌∷◌, ◌++◌, Option, refl, sym, ap, ◌∙◌, append_assoc, codes, decimal}
use Rattle.std.specs.Prelude.{unwrap_or}
use Rattle.apex_model.specs.Run.{spaced}
use Rattle.script_model.specs.Refusals.{refusal_name, refused_place, refusal_line}
use Rattle.call_script.specs.Errors.{number_of_error, name_of_error, line_of_error, refusal_of}
use Rattle.call_script.specs.declared.errors.ScriptError.{ScriptError}
use Rattle.call_script.specs.declared.errors.ScriptError.TheVariants as errors

name_is : (e : ScriptError) → name_of_error e ≡ refusal_name (number_of_error e)
name_is errors.TooLong = refl
name_is (errors.NotAscii line) = refl
name_is (errors.UnknownPartition line) = refl
name_is (errors.UnknownCall line) = refl
name_is (errors.WrongArguments line) = refl
name_is (errors.BadNumber line) = refl
name_is (errors.BadData line) = refl
name_is errors.OutOfMemory = refl

-- four words and what follows them, put one after the other
put_all : (a b c d p t0 t1 t2 t3 t4 t5 t6 : List ℕ) → t0 ≡ [] → t1 ≡ t0 ++ a → t2 ≡ t1 ++ b → t3 ≡ t2 ++ c → t4 ≡ t3 ++ d → t5 ≡ t4 ++ p → t6 ≡ t5 ++ 10 ∷ []
    → t6 ≡ a ++ (b ++ (c ++ (d ++ p))) ++ 10 ∷ []
put_all a b c d p t0 t1 t2 t3 t4 t5 t6 h0 h1 h2 h3 h4 h5 h6 = rw (h6, h5, h4, h3, h2, h1, h0) (simp append_assoc)

put_line : (n l : ℕ) (t0 t1 t2 t3 t4 t5 t6 : List ℕ) → t0 ≡ [] → t1 ≡ t0 ++ codes "script" → t2 ≡ t1 ++ (32 ∷ codes "refused") → t3 ≡ t2 ++ (32 ∷ decimal n)
    → t4 ≡ t3 ++ (32 ∷ refusal_name n) → t5 ≡ t4 ++ spaced (refused_place l) → t6 ≡ t5 ++ 10 ∷ [] → t6 ≡ refusal_line (record { number = n; line = l })
put_line n l t0 t1 t2 t3 t4 t5 t6 h0 h1 h2 h3 h4 h5 h6 =
    put_all (codes "script") (32 ∷ codes "refused") (32 ∷ decimal n) (32 ∷ refusal_name n) (spaced (refused_place l)) t0 t1 t2 t3 t4 t5 t6 h0 h1 h2 h3 h4 h5 h6

refusal_is : (n l m k : ℕ) → n ≡ m → l ≡ k → refusal_line (record { number = n; line = l }) ≡ refusal_line (record { number = m; line = k })
refusal_is n l m k p q = rw (p, q) refl

pub told : (e : ScriptError) (n l : ℕ) (name : List ℕ) (o : Option ℕ) (t0 t1 t2 t3 t4 t5 t6 : List ℕ) → n ≡ number_of_error e → name ≡ name_of_error e → o ≡ line_of_error e → l ≡ unwrap_or o 0
    → t0 ≡ [] → t1 ≡ t0 ++ codes "script" → t2 ≡ t1 ++ (32 ∷ codes "refused") → t3 ≡ t2 ++ (32 ∷ decimal n) → t4 ≡ t3 ++ (32 ∷ name) → t5 ≡ t4 ++ spaced (refused_place l) → t6 ≡ t5 ++ 10 ∷ []
    → t6 ≡ refusal_line (refusal_of e)
told e n l name o t0 t1 t2 t3 t4 t5 t6 number_e name_e line_e l_is h0 h1 h2 h3 h4 h5 h6 =
    let named : name ≡ refusal_name n = name_e ∙ name_is e ∙ ap refusal_name (sym number_e) in
    let fourth : t4 ≡ t3 ++ (32 ∷ refusal_name n) = h4 ∙ ap (λ (w : List ℕ). t3 ++ (32 ∷ w)) named in
    let place : l ≡ unwrap_or (line_of_error e) 0 = l_is ∙ ap (λ (x : Option ℕ). unwrap_or x 0) line_e in
    put_line n l t0 t1 t2 t3 t4 t5 t6 h0 h1 h2 h3 fourth h5 h6 ∙ refusal_is n l (number_of_error e) (unwrap_or (line_of_error e) 0) number_e place
