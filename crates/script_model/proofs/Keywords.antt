-- Keywords: what is found in a list of words and meanings.
use Rattle.std.proofs.Common.{◌≡◌, ℕ, ◌<◌, List, [], ◌∷◌, length, Some, refl, ap, ◌∙◌, bytes_eq, inl, inr, lit<}
use Rattle.std.proofs.lemmas.Bool.{cases_Bool}
use Rattle.std.proofs.lemmas.Slice.Eq.{bytes_eq-Decides}
use Rattle.std.specs.List.{AllByRecursion}
use Rattle.script_model.specs.declared.faults.LineFault.TheVariants.{WrongArguments}
use Rattle.apex_types.specs.declared.calls.OpenMode.{OpenMode}
use Rattle.apex_types.specs.declared.calls.OpenMode.TheVariants.{ReadOnly, ReadWrite}
use Rattle.apex_types.specs.declared.calls.Whence.{Whence}
use Rattle.apex_types.specs.declared.calls.Whence.TheVariants.{Set, Cur, End}
use Rattle.apex_types.specs.declared.calls.Mode.{Mode}
use Rattle.apex_types.specs.declared.calls.Mode.TheVariants.{Idle, ColdStart, WarmStart, Normal}
use Rattle.apex_types.specs.declared.calls.Context.{Context}
use Rattle.apex_types.specs.declared.calls.Context.TheVariants.{Ordinary, Handler, Locked}
use Rattle.script_model.specs.Spelling.{keyword, open_mode_word, whence_word, mode_word, context_word}
use Rattle.script_model.specs.Reading.{find_word, or_fault, open_modes, whences, modes, contexts, open_mode_at, whence_at, mode_at, context_at}
use Rattle.script_model.proofs.Steps.{IsReader, or_fault_ok}

-- each entry's word is that of its meaning
abbrev pub AreWords : {A : Type 0} → (A → List ℕ) → List (List ℕ × A) → Type 0
AreWords word entries = AllByRecursion (λ e. (e.0 ≡ word e.1) × (0 < length e.0)) entries

pub find_word-some : {A : Type 0} (word : A → List ℕ) (entries : List (List ℕ × A)) (w : List ℕ) (a : A) → AreWords word entries → find_word entries w ≡ Some a → (w ≡ word a) × (0 < length w)
find_word-some word [] w a h e = absurd cc
find_word-some word (x ∷ entries) w a h e =
    elim (cases_Bool (bytes_eq w x.0)) [
      | inl same ↦
          let g : Some x.1 ≡ Some a = rw same at e in
          let eq : w ≡ x.0 = (bytes_eq-Decides w x.0).0 same in
          let m : x.1 ≡ a = cc in
          (eq ∙ h.0.0 ∙ ap word m, rw eq h.0.1)
      | inr other ↦ find_word-some word entries w a h.1 (rw other at e)
    ]

-- a reader of keywords
pub keyword_reader : {A : Type 0} (word : A → List ℕ) (entries : List (List ℕ × A)) → AreWords word entries → ((a : A) → find_word entries (word a) ≡ Some a)
    → IsReader (λ a. keyword (word a)) (λ w. or_fault WrongArguments (find_word entries w))
keyword_reader word entries words found = record {
  spells = λ w a e. find_word-some word entries w a words (or_fault_ok WrongArguments (find_word entries w) a e);
  again = λ w a some h. ap (λ (t : List ℕ). or_fault WrongArguments (find_word entries t)) h ∙ ap (or_fault WrongArguments) (found a);
}

open_mode_found : (m : OpenMode) → find_word open_modes (open_mode_word m) ≡ Some m
open_mode_found ReadOnly = refl
open_mode_found ReadWrite = refl

whence_found : (m : Whence) → find_word whences (whence_word m) ≡ Some m
whence_found Set = refl
whence_found Cur = refl
whence_found End = refl

mode_found : (m : Mode) → find_word modes (mode_word m) ≡ Some m
mode_found Idle = refl
mode_found ColdStart = refl
mode_found WarmStart = refl
mode_found Normal = refl

pub open_mode_reader : IsReader (λ m. keyword (open_mode_word m)) open_mode_at
open_mode_reader = keyword_reader open_mode_word open_modes ((refl, lit< tt), ((refl, lit< tt), tt)) open_mode_found

pub whence_reader : IsReader (λ m. keyword (whence_word m)) whence_at
whence_reader = keyword_reader whence_word whences ((refl, lit< tt), ((refl, lit< tt), ((refl, lit< tt), tt))) whence_found

pub mode_reader : IsReader (λ m. keyword (mode_word m)) mode_at
mode_reader = keyword_reader mode_word modes ((refl, lit< tt), ((refl, lit< tt), ((refl, lit< tt), ((refl, lit< tt), tt)))) mode_found

context_found : (m : Context) → find_word contexts (context_word m) ≡ Some m
context_found Ordinary = refl
context_found Handler = refl
context_found Locked = refl

pub context_reader : IsReader (λ m. keyword (context_word m)) context_at
context_reader = keyword_reader context_word contexts ((refl, lit< tt), ((refl, lit< tt), ((refl, lit< tt), tt))) context_found
