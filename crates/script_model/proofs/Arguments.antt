-- The words of a call: what is read is spelled so, and what is spelled so is read.
use Rattle.std.proofs.Common.{◌≡◌, ℕ, ◌<◌, List, [], ◌∷◌, length, Option, Some, None, Result, Ok, refl, sym, ap, subst, ◌∙◌, codes, lit<, ◌⊎◌, inl, inr, option_map}
use Rattle.std.specs.List.{AllByRecursion}
use Rattle.script_model.specs.declared.faults.LineFault.{LineFault}
use Rattle.script_model.specs.declared.faults.LineFault.TheVariants.{UnknownCall}
use Rattle.apex_types.specs.declared.calls.FileCall.{FileCall}
use Rattle.apex_types.specs.declared.calls.FileCall.TheVariants as file
use Rattle.script_model.specs.declared.verbs.FileVerb.{FileVerb}
use Rattle.script_model.specs.declared.verbs.FileVerb.TheVariants as file_verb
use Rattle.apex_types.specs.declared.calls.DirCall.{DirCall}
use Rattle.apex_types.specs.declared.calls.DirCall.TheVariants as directory
use Rattle.script_model.specs.declared.verbs.DirectoryVerb.{DirectoryVerb}
use Rattle.script_model.specs.declared.verbs.DirectoryVerb.TheVariants as directory_verb
use Rattle.apex_types.specs.declared.calls.LogbookCall.{LogbookCall}
use Rattle.apex_types.specs.declared.calls.LogbookCall.TheVariants as logbook
use Rattle.script_model.specs.declared.verbs.LogbookVerb.{LogbookVerb}
use Rattle.script_model.specs.declared.verbs.LogbookVerb.TheVariants as logbook_verb
use Rattle.apex_types.specs.declared.calls.SamplingCall.{SamplingCall}
use Rattle.apex_types.specs.declared.calls.SamplingCall.TheVariants as sampling
use Rattle.script_model.specs.declared.verbs.SamplingVerb.{SamplingVerb}
use Rattle.script_model.specs.declared.verbs.SamplingVerb.TheVariants as sampling_verb
use Rattle.script_model.specs.declared.verbs.Verb.{Verb}
use Rattle.script_model.specs.declared.verbs.Verb.TheVariants as verbs
use Rattle.apex_types.specs.declared.calls.Call.{Call}
use Rattle.apex_types.specs.declared.calls.Call.TheVariants.{File, Directory, Logbook, Sampling, SetMode, SetContext}
use Rattle.script_model.proofs.Naming.{file_verb_of, directory_verb_of, logbook_verb_of, sampling_verb_of}
use Rattle.script_model.specs.Spelling.{Field, keyword, word, number, offset, bytes, AreSpelled, call_fields, file_fields, directory_fields, logbook_fields, sampling_fields, open_mode_word, whence_word, mode_word, context_word}
use Rattle.script_model.specs.Reading.{both, or_fault, find_word, file_verbs, directory_verbs, logbook_verbs, sampling_verbs, directive_verbs, or_else, verb_at, file_arguments, directory_arguments, logbook_arguments, sampling_arguments, word_at, number_at, offset_at, data_at, open_mode_at, whence_at, mode_at, context_at, one, two, three, arguments_at, call_at}
use Rattle.script_model.proofs.Steps.{IsReader, bind_ok, both_ok, filled_ok, filled_is, or_fault_ok}
use Rattle.script_model.proofs.Numbers.{number_reader, offset_reader}
use Rattle.script_model.proofs.Data.{data_reader}
use Rattle.script_model.proofs.Keywords.{AreWords, find_word-some, open_mode_reader, whence_reader, mode_reader, context_reader}

abbrev ok_word : List ℕ → Result (List ℕ) LineFault
ok_word w = Ok w

word_same : (w a : List ℕ) → ok_word w ≡ Ok a → w ≡ a
word_same w a e = cc

pub word_reader : IsReader word word_at
word_reader = record {
  spells = λ w a e. let f = filled_ok w (Ok w) a e in (word_same w a f.1, f.0);
  again = λ w a some h. filled_is w (Ok w) some ∙ ap (λ (t : List ℕ). Ok t) h;
}

abbrev some_verb : Verb → Option Verb
some_verb verb = Some verb

abbrev no_verb : Option Verb
no_verb = None

-- none of the words is empty
abbrev pub AreFilled : List (List ℕ) → Type 0
AreFilled ws = AllByRecursion (λ w. 0 < length w) ws

-- words that say these fields
pub record Say (fields : List Field) (ws : List (List ℕ)) : Type 0 where
  pub spelled : AreSpelled fields ws
  pub filled : AreFilled ws

-- ---- one, two and three arguments

pub one_says : {A C : Type 0} (field : A → Field) (read : List ℕ → Result A LineFault) (r : IsReader field read) (make : A → C) (ws : List (List ℕ)) (c : C)
    → one read make ws ≡ Ok c → (a : A) × (make a ≡ c) × Say (field a ∷ []) ws
one_says field read r make [] c e = absurd cc
one_says field read r make (w ∷ []) c e =
    let x = bind_ok (read w) (λ x. Ok (make x)) c e in
    let s = r.spells w x.0 x.1 in
    (x.0, cc (x.2), record { spelled = (s.0, tt); filled = (s.1, tt) })
one_says field read r make (w ∷ v ∷ ws) c e = absurd cc

pub one_again : {A C : Type 0} (field : A → Field) (read : List ℕ → Result A LineFault) (r : IsReader field read) (make : A → C) (ws : List (List ℕ)) (a : A)
    → Say (field a ∷ []) ws → one read make ws ≡ Ok (make a)
one_again field read r make [] a s = absurd s.spelled
one_again field read r make (w ∷ []) a s = rw (r.again w a s.filled.0 s.spelled.0) refl
one_again field read r make (w ∷ v ∷ ws) a s = absurd s.spelled.1

pub two_say : {A B C : Type 0} (field_a : A → Field) (read_a : List ℕ → Result A LineFault) (ra : IsReader field_a read_a) (field_b : B → Field) (read_b : List ℕ → Result B LineFault) (rb : IsReader field_b read_b)
    (make : A → B → C) (ws : List (List ℕ)) (c : C) → two read_a read_b make ws ≡ Ok c → (a : A) × (b : B) × (make a b ≡ c) × Say (field_a a ∷ field_b b ∷ []) ws
two_say field_a read_a ra field_b read_b rb make [] c e = absurd cc
two_say field_a read_a ra field_b read_b rb make (w ∷ []) c e = absurd cc
two_say field_a read_a ra field_b read_b rb make (w ∷ v ∷ []) c e =
    let x = bind_ok (both (read_a w) (read_b v)) (λ x. Ok (make x.0 x.1)) c e in
    let y = both_ok (read_a w) (read_b v) x.0 x.1 in
    let s = ra.spells w x.0.0 y.0 in
    let t = rb.spells v x.0.1 y.1 in
    (x.0.0, x.0.1, cc (x.2), record { spelled = (s.0, (t.0, tt)); filled = (s.1, (t.1, tt)) })
two_say field_a read_a ra field_b read_b rb make (w ∷ v ∷ u ∷ ws) c e = absurd cc

pub two_again : {A B C : Type 0} (field_a : A → Field) (read_a : List ℕ → Result A LineFault) (ra : IsReader field_a read_a) (field_b : B → Field) (read_b : List ℕ → Result B LineFault) (rb : IsReader field_b read_b)
    (make : A → B → C) (ws : List (List ℕ)) (a : A) (b : B) → Say (field_a a ∷ field_b b ∷ []) ws → two read_a read_b make ws ≡ Ok (make a b)
two_again field_a read_a ra field_b read_b rb make [] a b s = absurd s.spelled
two_again field_a read_a ra field_b read_b rb make (w ∷ []) a b s = absurd s.spelled.1
two_again field_a read_a ra field_b read_b rb make (w ∷ v ∷ []) a b s = rw (ra.again w a s.filled.0 s.spelled.0, rb.again v b s.filled.1.0 s.spelled.1.0) refl
two_again field_a read_a ra field_b read_b rb make (w ∷ v ∷ u ∷ ws) a b s = absurd s.spelled.1.1

pub three_say : {A B C D : Type 0} (field_a : A → Field) (read_a : List ℕ → Result A LineFault) (ra : IsReader field_a read_a) (field_b : B → Field) (read_b : List ℕ → Result B LineFault) (rb : IsReader field_b read_b)
    (field_c : C → Field) (read_c : List ℕ → Result C LineFault) (rc : IsReader field_c read_c)
    (make : A → B → C → D) (ws : List (List ℕ)) (d : D) → three read_a read_b read_c make ws ≡ Ok d → (a : A) × (b : B) × (c : C) × (make a b c ≡ d) × Say (field_a a ∷ field_b b ∷ field_c c ∷ []) ws
three_say field_a read_a ra field_b read_b rb field_c read_c rc make [] d e = absurd cc
three_say field_a read_a ra field_b read_b rb field_c read_c rc make (w ∷ []) d e = absurd cc
three_say field_a read_a ra field_b read_b rb field_c read_c rc make (w ∷ v ∷ []) d e = absurd cc
three_say field_a read_a ra field_b read_b rb field_c read_c rc make (w ∷ v ∷ u ∷ []) d e =
    let x = bind_ok (both (both (read_a w) (read_b v)) (read_c u)) (λ x. Ok (make x.0.0 x.0.1 x.1)) d e in
    let y = both_ok (both (read_a w) (read_b v)) (read_c u) x.0 x.1 in
    let z = both_ok (read_a w) (read_b v) x.0.0 y.0 in
    let s = ra.spells w x.0.0.0 z.0 in
    let t = rb.spells v x.0.0.1 z.1 in
    let q = rc.spells u x.0.1 y.1 in
    (x.0.0.0, x.0.0.1, x.0.1, cc (x.2), record { spelled = (s.0, (t.0, (q.0, tt))); filled = (s.1, (t.1, (q.1, tt))) })
three_say field_a read_a ra field_b read_b rb field_c read_c rc make (w ∷ v ∷ u ∷ x ∷ ws) d e = absurd cc

pub three_again : {A B C D : Type 0} (field_a : A → Field) (read_a : List ℕ → Result A LineFault) (ra : IsReader field_a read_a) (field_b : B → Field) (read_b : List ℕ → Result B LineFault) (rb : IsReader field_b read_b)
    (field_c : C → Field) (read_c : List ℕ → Result C LineFault) (rc : IsReader field_c read_c)
    (make : A → B → C → D) (ws : List (List ℕ)) (a : A) (b : B) (c : C) → Say (field_a a ∷ field_b b ∷ field_c c ∷ []) ws → three read_a read_b read_c make ws ≡ Ok (make a b c)
three_again field_a read_a ra field_b read_b rb field_c read_c rc make [] a b c s = absurd s.spelled
three_again field_a read_a ra field_b read_b rb field_c read_c rc make (w ∷ []) a b c s = absurd s.spelled.1
three_again field_a read_a ra field_b read_b rb field_c read_c rc make (w ∷ v ∷ []) a b c s = absurd s.spelled.1.1
three_again field_a read_a ra field_b read_b rb field_c read_c rc make (w ∷ v ∷ u ∷ []) a b c s =
    rw (ra.again w a s.filled.0 s.spelled.0, rb.again v b s.filled.1.0 s.spelled.1.0, rc.again u c s.filled.1.1.0 s.spelled.1.1.0) refl
three_again field_a read_a ra field_b read_b rb field_c read_c rc make (w ∷ v ∷ u ∷ x ∷ ws) a b c s = absurd s.spelled.1.1.1

-- ---- each call

says : {C : Type 0} (fields_of : C → List Field) (word_of : List ℕ) (ws : List (List ℕ)) (fields : List Field) (c d : C) → 0 < length word_of → d ≡ c → Say fields ws → fields_of d ≡ keyword word_of ∷ fields → Say (fields_of c) (word_of ∷ ws)
says {C} fields_of word_of ws fields c d some same s h =
    let t : Say (fields_of d) (word_of ∷ ws) = rw h (record { spelled = (refl, s.spelled); filled = (some, s.filled) }) in
    subst (λ (x : C). Say (fields_of x) (word_of ∷ ws)) same t

-- a call that words say: its word, and what its arguments are read as
pub record Named {V C : Type 0} (verb : V) (word_of : V → List ℕ) (arguments : V → List (List ℕ) → Result C LineFault) (w : List ℕ) (ws : List (List ℕ)) (c : C) : Type 0 where
  pub first : w ≡ word_of verb
  pub rest : arguments verb ws ≡ Ok c

abbrev pub file_word : FileVerb → List ℕ
file_word file_verb.OpenNewFile = codes "OPEN_NEW_FILE"
file_word file_verb.OpenFile = codes "OPEN_FILE"
file_word file_verb.CloseFile = codes "CLOSE_FILE"
file_word file_verb.ReadFile = codes "READ_FILE"
file_word file_verb.WriteFile = codes "WRITE_FILE"
file_word file_verb.SeekFile = codes "SEEK_FILE"
file_word file_verb.ResizeFile = codes "RESIZE_FILE"
file_word file_verb.SyncFile = codes "SYNC_FILE"
file_word file_verb.RemoveFile = codes "REMOVE_FILE"
file_word file_verb.RenameFile = codes "RENAME_FILE"
file_word file_verb.GetFileStatus = codes "GET_FILE_STATUS"
file_word file_verb.GetVolumeStatus = codes "GET_VOLUME_STATUS"

file_says : (verb : FileVerb) (ws : List (List ℕ)) (c : FileCall) → file_arguments verb ws ≡ Ok c → Say (file_fields c) (file_word verb ∷ ws)
unfolding file_arguments
file_says file_verb.OpenNewFile ws c e =
    let s = one_says word word_at word_reader (λ path. file.OpenNewFile path) ws c e in
    says file_fields (codes "OPEN_NEW_FILE") ws _ c _ (lit< tt) s.1 s.2 refl
file_says file_verb.OpenFile ws c e =
    let s = two_say word word_at word_reader (λ m. keyword (open_mode_word m)) open_mode_at open_mode_reader (λ path mode. file.OpenFile path mode) ws c e in
    says file_fields (codes "OPEN_FILE") ws _ c _ (lit< tt) s.2 s.3 refl
file_says file_verb.CloseFile ws c e =
    let s = one_says number number_at number_reader (λ id. file.CloseFile id) ws c e in
    says file_fields (codes "CLOSE_FILE") ws _ c _ (lit< tt) s.1 s.2 refl
file_says file_verb.ReadFile ws c e =
    let s = two_say number number_at number_reader number number_at number_reader (λ id len. file.ReadFile id len) ws c e in
    says file_fields (codes "READ_FILE") ws _ c _ (lit< tt) s.2 s.3 refl
file_says file_verb.WriteFile ws c e =
    let s = two_say number number_at number_reader bytes data_at data_reader (λ id bs. file.WriteFile id bs) ws c e in
    says file_fields (codes "WRITE_FILE") ws _ c _ (lit< tt) s.2 s.3 refl
file_says file_verb.SeekFile ws c e =
    let s = three_say number number_at number_reader offset offset_at offset_reader (λ m. keyword (whence_word m)) whence_at whence_reader (λ id by whence. file.SeekFile id by whence) ws c e in
    says file_fields (codes "SEEK_FILE") ws _ c _ (lit< tt) s.3 s.4 refl
file_says file_verb.ResizeFile ws c e =
    let s = two_say number number_at number_reader number number_at number_reader (λ id size. file.ResizeFile id size) ws c e in
    says file_fields (codes "RESIZE_FILE") ws _ c _ (lit< tt) s.2 s.3 refl
file_says file_verb.SyncFile ws c e =
    let s = one_says number number_at number_reader (λ id. file.SyncFile id) ws c e in
    says file_fields (codes "SYNC_FILE") ws _ c _ (lit< tt) s.1 s.2 refl
file_says file_verb.RemoveFile ws c e =
    let s = one_says word word_at word_reader (λ path. file.RemoveFile path) ws c e in
    says file_fields (codes "REMOVE_FILE") ws _ c _ (lit< tt) s.1 s.2 refl
file_says file_verb.RenameFile ws c e =
    let s = two_say word word_at word_reader word word_at word_reader (λ old new. file.RenameFile old new) ws c e in
    says file_fields (codes "RENAME_FILE") ws _ c _ (lit< tt) s.2 s.3 refl
file_says file_verb.GetFileStatus ws c e =
    let s = one_says number number_at number_reader (λ id. file.GetFileStatus id) ws c e in
    says file_fields (codes "GET_FILE_STATUS") ws _ c _ (lit< tt) s.1 s.2 refl
file_says file_verb.GetVolumeStatus ws c e =
    let s = one_says word word_at word_reader (λ path. file.GetVolumeStatus path) ws c e in
    says file_fields (codes "GET_VOLUME_STATUS") ws _ c _ (lit< tt) s.1 s.2 refl

file_again : (c : FileCall) (w : List ℕ) (ws : List (List ℕ)) → Say (file_fields c) (w ∷ ws) → Named (file_verb_of c) file_word file_arguments w ws c
unfolding file_arguments
file_again (file.OpenNewFile path) w ws s = record {
  first = s.spelled.0;
  rest = one_again word word_at word_reader (λ path. file.OpenNewFile path) ws path (record { spelled = s.spelled.1; filled = s.filled.1 });
}
file_again (file.OpenFile path mode) w ws s = record {
  first = s.spelled.0;
  rest = two_again word word_at word_reader (λ m. keyword (open_mode_word m)) open_mode_at open_mode_reader (λ path mode. file.OpenFile path mode) ws path mode (record { spelled = s.spelled.1; filled = s.filled.1 });
}
file_again (file.CloseFile id) w ws s = record {
  first = s.spelled.0;
  rest = one_again number number_at number_reader (λ id. file.CloseFile id) ws id (record { spelled = s.spelled.1; filled = s.filled.1 });
}
file_again (file.ReadFile id len) w ws s = record {
  first = s.spelled.0;
  rest = two_again number number_at number_reader number number_at number_reader (λ id len. file.ReadFile id len) ws id len (record { spelled = s.spelled.1; filled = s.filled.1 });
}
file_again (file.WriteFile id bs) w ws s = record {
  first = s.spelled.0;
  rest = two_again number number_at number_reader bytes data_at data_reader (λ id bs. file.WriteFile id bs) ws id bs (record { spelled = s.spelled.1; filled = s.filled.1 });
}
file_again (file.SeekFile id by whence) w ws s = record {
  first = s.spelled.0;
  rest = three_again number number_at number_reader offset offset_at offset_reader (λ m. keyword (whence_word m)) whence_at whence_reader (λ id by whence. file.SeekFile id by whence) ws id by whence (record { spelled = s.spelled.1; filled = s.filled.1 });
}
file_again (file.ResizeFile id size) w ws s = record {
  first = s.spelled.0;
  rest = two_again number number_at number_reader number number_at number_reader (λ id size. file.ResizeFile id size) ws id size (record { spelled = s.spelled.1; filled = s.filled.1 });
}
file_again (file.SyncFile id) w ws s = record {
  first = s.spelled.0;
  rest = one_again number number_at number_reader (λ id. file.SyncFile id) ws id (record { spelled = s.spelled.1; filled = s.filled.1 });
}
file_again (file.RemoveFile path) w ws s = record {
  first = s.spelled.0;
  rest = one_again word word_at word_reader (λ path. file.RemoveFile path) ws path (record { spelled = s.spelled.1; filled = s.filled.1 });
}
file_again (file.RenameFile old new) w ws s = record {
  first = s.spelled.0;
  rest = two_again word word_at word_reader word word_at word_reader (λ old new. file.RenameFile old new) ws old new (record { spelled = s.spelled.1; filled = s.filled.1 });
}
file_again (file.GetFileStatus id) w ws s = record {
  first = s.spelled.0;
  rest = one_again number number_at number_reader (λ id. file.GetFileStatus id) ws id (record { spelled = s.spelled.1; filled = s.filled.1 });
}
file_again (file.GetVolumeStatus path) w ws s = record {
  first = s.spelled.0;
  rest = one_again word word_at word_reader (λ path. file.GetVolumeStatus path) ws path (record { spelled = s.spelled.1; filled = s.filled.1 });
}

file_are_words : AreWords file_word file_verbs
file_are_words = ((refl, lit< tt), ((refl, lit< tt), ((refl, lit< tt), ((refl, lit< tt), ((refl, lit< tt), ((refl, lit< tt), ((refl, lit< tt), ((refl, lit< tt), ((refl, lit< tt), ((refl, lit< tt), ((refl, lit< tt), ((refl, lit< tt), tt))))))))))))

file_found : (verb : FileVerb) → find_word file_verbs (file_word verb) ≡ Some verb
file_found file_verb.OpenNewFile = refl
file_found file_verb.OpenFile = refl
file_found file_verb.CloseFile = refl
file_found file_verb.ReadFile = refl
file_found file_verb.WriteFile = refl
file_found file_verb.SeekFile = refl
file_found file_verb.ResizeFile = refl
file_found file_verb.SyncFile = refl
file_found file_verb.RemoveFile = refl
file_found file_verb.RenameFile = refl
file_found file_verb.GetFileStatus = refl
file_found file_verb.GetVolumeStatus = refl

abbrev pub directory_word : DirectoryVerb → List ℕ
directory_word directory_verb.OpenDirectory = codes "OPEN_DIRECTORY"
directory_word directory_verb.CloseDirectory = codes "CLOSE_DIRECTORY"
directory_word directory_verb.ReadDirectory = codes "READ_DIRECTORY"
directory_word directory_verb.RewindDirectory = codes "REWIND_DIRECTORY"
directory_word directory_verb.MakeDirectory = codes "MAKE_DIRECTORY"
directory_word directory_verb.RemoveDirectory = codes "REMOVE_DIRECTORY"
directory_word directory_verb.SyncDirectory = codes "SYNC_DIRECTORY"

directory_says : (verb : DirectoryVerb) (ws : List (List ℕ)) (c : DirCall) → directory_arguments verb ws ≡ Ok c → Say (directory_fields c) (directory_word verb ∷ ws)
unfolding directory_arguments
directory_says directory_verb.OpenDirectory ws c e =
    let s = one_says word word_at word_reader (λ path. directory.OpenDirectory path) ws c e in
    says directory_fields (codes "OPEN_DIRECTORY") ws _ c _ (lit< tt) s.1 s.2 refl
directory_says directory_verb.CloseDirectory ws c e =
    let s = one_says number number_at number_reader (λ id. directory.CloseDirectory id) ws c e in
    says directory_fields (codes "CLOSE_DIRECTORY") ws _ c _ (lit< tt) s.1 s.2 refl
directory_says directory_verb.ReadDirectory ws c e =
    let s = one_says number number_at number_reader (λ id. directory.ReadDirectory id) ws c e in
    says directory_fields (codes "READ_DIRECTORY") ws _ c _ (lit< tt) s.1 s.2 refl
directory_says directory_verb.RewindDirectory ws c e =
    let s = one_says number number_at number_reader (λ id. directory.RewindDirectory id) ws c e in
    says directory_fields (codes "REWIND_DIRECTORY") ws _ c _ (lit< tt) s.1 s.2 refl
directory_says directory_verb.MakeDirectory ws c e =
    let s = one_says word word_at word_reader (λ path. directory.MakeDirectory path) ws c e in
    says directory_fields (codes "MAKE_DIRECTORY") ws _ c _ (lit< tt) s.1 s.2 refl
directory_says directory_verb.RemoveDirectory ws c e =
    let s = one_says word word_at word_reader (λ path. directory.RemoveDirectory path) ws c e in
    says directory_fields (codes "REMOVE_DIRECTORY") ws _ c _ (lit< tt) s.1 s.2 refl
directory_says directory_verb.SyncDirectory ws c e =
    let s = one_says number number_at number_reader (λ id. directory.SyncDirectory id) ws c e in
    says directory_fields (codes "SYNC_DIRECTORY") ws _ c _ (lit< tt) s.1 s.2 refl

directory_again : (c : DirCall) (w : List ℕ) (ws : List (List ℕ)) → Say (directory_fields c) (w ∷ ws) → Named (directory_verb_of c) directory_word directory_arguments w ws c
unfolding directory_arguments
directory_again (directory.OpenDirectory path) w ws s = record {
  first = s.spelled.0;
  rest = one_again word word_at word_reader (λ path. directory.OpenDirectory path) ws path (record { spelled = s.spelled.1; filled = s.filled.1 });
}
directory_again (directory.CloseDirectory id) w ws s = record {
  first = s.spelled.0;
  rest = one_again number number_at number_reader (λ id. directory.CloseDirectory id) ws id (record { spelled = s.spelled.1; filled = s.filled.1 });
}
directory_again (directory.ReadDirectory id) w ws s = record {
  first = s.spelled.0;
  rest = one_again number number_at number_reader (λ id. directory.ReadDirectory id) ws id (record { spelled = s.spelled.1; filled = s.filled.1 });
}
directory_again (directory.RewindDirectory id) w ws s = record {
  first = s.spelled.0;
  rest = one_again number number_at number_reader (λ id. directory.RewindDirectory id) ws id (record { spelled = s.spelled.1; filled = s.filled.1 });
}
directory_again (directory.MakeDirectory path) w ws s = record {
  first = s.spelled.0;
  rest = one_again word word_at word_reader (λ path. directory.MakeDirectory path) ws path (record { spelled = s.spelled.1; filled = s.filled.1 });
}
directory_again (directory.RemoveDirectory path) w ws s = record {
  first = s.spelled.0;
  rest = one_again word word_at word_reader (λ path. directory.RemoveDirectory path) ws path (record { spelled = s.spelled.1; filled = s.filled.1 });
}
directory_again (directory.SyncDirectory id) w ws s = record {
  first = s.spelled.0;
  rest = one_again number number_at number_reader (λ id. directory.SyncDirectory id) ws id (record { spelled = s.spelled.1; filled = s.filled.1 });
}

directory_are_words : AreWords directory_word directory_verbs
directory_are_words = ((refl, lit< tt), ((refl, lit< tt), ((refl, lit< tt), ((refl, lit< tt), ((refl, lit< tt), ((refl, lit< tt), ((refl, lit< tt), tt)))))))

directory_found : (verb : DirectoryVerb) → find_word directory_verbs (directory_word verb) ≡ Some verb
directory_found directory_verb.OpenDirectory = refl
directory_found directory_verb.CloseDirectory = refl
directory_found directory_verb.ReadDirectory = refl
directory_found directory_verb.RewindDirectory = refl
directory_found directory_verb.MakeDirectory = refl
directory_found directory_verb.RemoveDirectory = refl
directory_found directory_verb.SyncDirectory = refl

abbrev pub logbook_word : LogbookVerb → List ℕ
logbook_word logbook_verb.Create = codes "CREATE_LOGBOOK"
logbook_word logbook_verb.Write = codes "WRITE_LOGBOOK"
logbook_word logbook_verb.Overwrite = codes "OVERWRITE_LOGBOOK"
logbook_word logbook_verb.Read = codes "READ_LOGBOOK"
logbook_word logbook_verb.Clear = codes "CLEAR_LOGBOOK"
logbook_word logbook_verb.GetId = codes "GET_LOGBOOK_ID"
logbook_word logbook_verb.GetStatus = codes "GET_LOGBOOK_STATUS"

logbook_says : (verb : LogbookVerb) (ws : List (List ℕ)) (c : LogbookCall) → logbook_arguments verb ws ≡ Ok c → Say (logbook_fields c) (logbook_word verb ∷ ws)
unfolding logbook_arguments
logbook_says logbook_verb.Create ws c e =
    let s = one_says word word_at word_reader (λ name. logbook.Create name) ws c e in
    says logbook_fields (codes "CREATE_LOGBOOK") ws _ c _ (lit< tt) s.1 s.2 refl
logbook_says logbook_verb.Write ws c e =
    let s = two_say number number_at number_reader bytes data_at data_reader (λ id bs. logbook.Write id bs) ws c e in
    says logbook_fields (codes "WRITE_LOGBOOK") ws _ c _ (lit< tt) s.2 s.3 refl
logbook_says logbook_verb.Overwrite ws c e =
    let s = two_say number number_at number_reader bytes data_at data_reader (λ id bs. logbook.Overwrite id bs) ws c e in
    says logbook_fields (codes "OVERWRITE_LOGBOOK") ws _ c _ (lit< tt) s.2 s.3 refl
logbook_says logbook_verb.Read ws c e =
    let s = two_say number number_at number_reader number number_at number_reader (λ id count. logbook.Read id count) ws c e in
    says logbook_fields (codes "READ_LOGBOOK") ws _ c _ (lit< tt) s.2 s.3 refl
logbook_says logbook_verb.Clear ws c e =
    let s = one_says number number_at number_reader (λ id. logbook.Clear id) ws c e in
    says logbook_fields (codes "CLEAR_LOGBOOK") ws _ c _ (lit< tt) s.1 s.2 refl
logbook_says logbook_verb.GetId ws c e =
    let s = one_says word word_at word_reader (λ name. logbook.GetId name) ws c e in
    says logbook_fields (codes "GET_LOGBOOK_ID") ws _ c _ (lit< tt) s.1 s.2 refl
logbook_says logbook_verb.GetStatus ws c e =
    let s = one_says number number_at number_reader (λ id. logbook.GetStatus id) ws c e in
    says logbook_fields (codes "GET_LOGBOOK_STATUS") ws _ c _ (lit< tt) s.1 s.2 refl

logbook_again : (c : LogbookCall) (w : List ℕ) (ws : List (List ℕ)) → Say (logbook_fields c) (w ∷ ws) → Named (logbook_verb_of c) logbook_word logbook_arguments w ws c
unfolding logbook_arguments
logbook_again (logbook.Create name) w ws s = record {
  first = s.spelled.0;
  rest = one_again word word_at word_reader (λ name. logbook.Create name) ws name (record { spelled = s.spelled.1; filled = s.filled.1 });
}
logbook_again (logbook.Write id bs) w ws s = record {
  first = s.spelled.0;
  rest = two_again number number_at number_reader bytes data_at data_reader (λ id bs. logbook.Write id bs) ws id bs (record { spelled = s.spelled.1; filled = s.filled.1 });
}
logbook_again (logbook.Overwrite id bs) w ws s = record {
  first = s.spelled.0;
  rest = two_again number number_at number_reader bytes data_at data_reader (λ id bs. logbook.Overwrite id bs) ws id bs (record { spelled = s.spelled.1; filled = s.filled.1 });
}
logbook_again (logbook.Read id count) w ws s = record {
  first = s.spelled.0;
  rest = two_again number number_at number_reader number number_at number_reader (λ id count. logbook.Read id count) ws id count (record { spelled = s.spelled.1; filled = s.filled.1 });
}
logbook_again (logbook.Clear id) w ws s = record {
  first = s.spelled.0;
  rest = one_again number number_at number_reader (λ id. logbook.Clear id) ws id (record { spelled = s.spelled.1; filled = s.filled.1 });
}
logbook_again (logbook.GetId name) w ws s = record {
  first = s.spelled.0;
  rest = one_again word word_at word_reader (λ name. logbook.GetId name) ws name (record { spelled = s.spelled.1; filled = s.filled.1 });
}
logbook_again (logbook.GetStatus id) w ws s = record {
  first = s.spelled.0;
  rest = one_again number number_at number_reader (λ id. logbook.GetStatus id) ws id (record { spelled = s.spelled.1; filled = s.filled.1 });
}

logbook_are_words : AreWords logbook_word logbook_verbs
logbook_are_words = ((refl, lit< tt), ((refl, lit< tt), ((refl, lit< tt), ((refl, lit< tt), ((refl, lit< tt), ((refl, lit< tt), ((refl, lit< tt), tt)))))))

logbook_found : (verb : LogbookVerb) → find_word logbook_verbs (logbook_word verb) ≡ Some verb
logbook_found logbook_verb.Create = refl
logbook_found logbook_verb.Write = refl
logbook_found logbook_verb.Overwrite = refl
logbook_found logbook_verb.Read = refl
logbook_found logbook_verb.Clear = refl
logbook_found logbook_verb.GetId = refl
logbook_found logbook_verb.GetStatus = refl

abbrev pub sampling_word : SamplingVerb → List ℕ
sampling_word sampling_verb.Create = codes "CREATE_SAMPLING_PORT"
sampling_word sampling_verb.Write = codes "WRITE_SAMPLING_MESSAGE"
sampling_word sampling_verb.ReadUpdated = codes "READ_UPDATED_SAMPLING_MESSAGE"
sampling_word sampling_verb.CurrentStatus = codes "GET_SAMPLING_PORT_CURRENT_STATUS"
sampling_word sampling_verb.ReadConditional = codes "READ_SAMPLING_MESSAGE_CONDITIONAL"

sampling_says : (verb : SamplingVerb) (ws : List (List ℕ)) (c : SamplingCall) → sampling_arguments verb ws ≡ Ok c → Say (sampling_fields c) (sampling_word verb ∷ ws)
unfolding sampling_arguments
sampling_says sampling_verb.Create ws c e =
    let s = one_says word word_at word_reader (λ name. sampling.Create name) ws c e in
    says sampling_fields (codes "CREATE_SAMPLING_PORT") ws _ c _ (lit< tt) s.1 s.2 refl
sampling_says sampling_verb.Write ws c e =
    let s = two_say number number_at number_reader bytes data_at data_reader (λ id bs. sampling.Write id bs) ws c e in
    says sampling_fields (codes "WRITE_SAMPLING_MESSAGE") ws _ c _ (lit< tt) s.2 s.3 refl
sampling_says sampling_verb.ReadUpdated ws c e =
    let s = one_says number number_at number_reader (λ id. sampling.ReadUpdated id) ws c e in
    says sampling_fields (codes "READ_UPDATED_SAMPLING_MESSAGE") ws _ c _ (lit< tt) s.1 s.2 refl
sampling_says sampling_verb.CurrentStatus ws c e =
    let s = one_says number number_at number_reader (λ id. sampling.CurrentStatus id) ws c e in
    says sampling_fields (codes "GET_SAMPLING_PORT_CURRENT_STATUS") ws _ c _ (lit< tt) s.1 s.2 refl
sampling_says sampling_verb.ReadConditional ws c e =
    let s = two_say number number_at number_reader number number_at number_reader (λ id time. sampling.ReadConditional id time) ws c e in
    says sampling_fields (codes "READ_SAMPLING_MESSAGE_CONDITIONAL") ws _ c _ (lit< tt) s.2 s.3 refl

sampling_again : (c : SamplingCall) (w : List ℕ) (ws : List (List ℕ)) → Say (sampling_fields c) (w ∷ ws) → Named (sampling_verb_of c) sampling_word sampling_arguments w ws c
unfolding sampling_arguments
sampling_again (sampling.Create name) w ws s = record {
  first = s.spelled.0;
  rest = one_again word word_at word_reader (λ name. sampling.Create name) ws name (record { spelled = s.spelled.1; filled = s.filled.1 });
}
sampling_again (sampling.Write id bs) w ws s = record {
  first = s.spelled.0;
  rest = two_again number number_at number_reader bytes data_at data_reader (λ id bs. sampling.Write id bs) ws id bs (record { spelled = s.spelled.1; filled = s.filled.1 });
}
sampling_again (sampling.ReadUpdated id) w ws s = record {
  first = s.spelled.0;
  rest = one_again number number_at number_reader (λ id. sampling.ReadUpdated id) ws id (record { spelled = s.spelled.1; filled = s.filled.1 });
}
sampling_again (sampling.CurrentStatus id) w ws s = record {
  first = s.spelled.0;
  rest = one_again number number_at number_reader (λ id. sampling.CurrentStatus id) ws id (record { spelled = s.spelled.1; filled = s.filled.1 });
}
sampling_again (sampling.ReadConditional id time) w ws s = record {
  first = s.spelled.0;
  rest = two_again number number_at number_reader number number_at number_reader (λ id time. sampling.ReadConditional id time) ws id time (record { spelled = s.spelled.1; filled = s.filled.1 });
}

sampling_are_words : AreWords sampling_word sampling_verbs
sampling_are_words = ((refl, lit< tt), ((refl, lit< tt), ((refl, lit< tt), ((refl, lit< tt), ((refl, lit< tt), tt)))))

sampling_found : (verb : SamplingVerb) → find_word sampling_verbs (sampling_word verb) ≡ Some verb
sampling_found sampling_verb.Create = refl
sampling_found sampling_verb.Write = refl
sampling_found sampling_verb.ReadUpdated = refl
sampling_found sampling_verb.CurrentStatus = refl
sampling_found sampling_verb.ReadConditional = refl

abbrev pub verb_word : Verb → List ℕ
verb_word (verbs.File verb) = file_word verb
verb_word (verbs.Directory verb) = directory_word verb
verb_word (verbs.Logbook verb) = logbook_word verb
verb_word (verbs.Sampling verb) = sampling_word verb
verb_word verbs.Mode = codes "MODE"
verb_word verbs.Context = codes "CONTEXT"

-- the word of a verb that was found
IsWordOf : List ℕ → Verb → Type 0
IsWordOf w verb = (w ≡ verb_word verb) × (0 < length w)

either : {A : Type 0} (o p : Option A) (x : A) → or_else o p ≡ Some x → (o ≡ Some x) ⊎ (p ≡ Some x)
either (Some y) p x e = inl e
either None p x e = inr e

made : {A B : Type 0} (make : A → B) (o : Option A) (y : B) → option_map make o ≡ Some y → (x : A) × (o ≡ Some x) × (make x ≡ y)
made make (Some x) y e = (x, refl, cc)
made make None y e = absurd cc

family : {V : Type 0} (word_of : V → List ℕ) (entries : List (List ℕ × V)) (make : V → Verb) → ((v : V) → verb_word (make v) ≡ word_of v) → AreWords word_of entries → (w : List ℕ) (verb : Verb)
    → option_map make (find_word entries w) ≡ Some verb → IsWordOf w verb
unfolding IsWordOf
family word_of entries make same words w verb e =
    let m = made make (find_word entries w) verb e in
    let f = find_word-some word_of entries w m.0 words m.1 in
    (f.0 ∙ sym (same m.0) ∙ ap verb_word m.2, f.1)

directives_are_words : AreWords verb_word directive_verbs
directives_are_words = ((refl, lit< tt), ((refl, lit< tt), tt))

verb_is : (w : List ℕ) (verb : Verb) → verb_at w ≡ Some verb → IsWordOf w verb
unfolding verb_at IsWordOf
verb_is w verb e =
    elim (either (option_map verbs.File (find_word file_verbs w)) _ verb e) [
      | inl here ↦ family file_word file_verbs verbs.File (λ v. refl) file_are_words w verb here
      | inr more ↦
          elim (either (option_map verbs.Directory (find_word directory_verbs w)) _ verb more) [
            | inl here ↦ family directory_word directory_verbs verbs.Directory (λ v. refl) directory_are_words w verb here
            | inr more2 ↦
                elim (either (option_map verbs.Logbook (find_word logbook_verbs w)) _ verb more2) [
                  | inl here ↦ family logbook_word logbook_verbs verbs.Logbook (λ v. refl) logbook_are_words w verb here
                  | inr more3 ↦
                      elim (either (option_map verbs.Sampling (find_word sampling_verbs w)) _ verb more3) [
                        | inl here ↦ family sampling_word sampling_verbs verbs.Sampling (λ v. refl) sampling_are_words w verb here
                        | inr last ↦ find_word-some verb_word directive_verbs w verb directives_are_words last
                      ]
                ]
          ]
    ]

-- each word is found
verb_found : (verb : Verb) → verb_at (verb_word verb) ≡ Some verb
unfolding verb_at
verb_found (verbs.File file_verb.OpenNewFile) = refl
verb_found (verbs.File file_verb.OpenFile) = refl
verb_found (verbs.File file_verb.CloseFile) = refl
verb_found (verbs.File file_verb.ReadFile) = refl
verb_found (verbs.File file_verb.WriteFile) = refl
verb_found (verbs.File file_verb.SeekFile) = refl
verb_found (verbs.File file_verb.ResizeFile) = refl
verb_found (verbs.File file_verb.SyncFile) = refl
verb_found (verbs.File file_verb.RemoveFile) = refl
verb_found (verbs.File file_verb.RenameFile) = refl
verb_found (verbs.File file_verb.GetFileStatus) = refl
verb_found (verbs.File file_verb.GetVolumeStatus) = refl
verb_found (verbs.Directory directory_verb.OpenDirectory) = refl
verb_found (verbs.Directory directory_verb.CloseDirectory) = refl
verb_found (verbs.Directory directory_verb.ReadDirectory) = refl
verb_found (verbs.Directory directory_verb.RewindDirectory) = refl
verb_found (verbs.Directory directory_verb.MakeDirectory) = refl
verb_found (verbs.Directory directory_verb.RemoveDirectory) = refl
verb_found (verbs.Directory directory_verb.SyncDirectory) = refl
verb_found (verbs.Logbook logbook_verb.Create) = refl
verb_found (verbs.Logbook logbook_verb.Write) = refl
verb_found (verbs.Logbook logbook_verb.Overwrite) = refl
verb_found (verbs.Logbook logbook_verb.Read) = refl
verb_found (verbs.Logbook logbook_verb.Clear) = refl
verb_found (verbs.Logbook logbook_verb.GetId) = refl
verb_found (verbs.Logbook logbook_verb.GetStatus) = refl
verb_found (verbs.Sampling sampling_verb.Create) = refl
verb_found (verbs.Sampling sampling_verb.Write) = refl
verb_found (verbs.Sampling sampling_verb.ReadUpdated) = refl
verb_found (verbs.Sampling sampling_verb.CurrentStatus) = refl
verb_found (verbs.Sampling sampling_verb.ReadConditional) = refl
verb_found verbs.Mode = refl
verb_found verbs.Context = refl

arguments_say : (verb : Verb) (ws : List (List ℕ)) (c : Call) → arguments_at verb ws ≡ Ok c → Say (call_fields c) (verb_word verb ∷ ws)
unfolding arguments_at
arguments_say (verbs.File verb) ws c e =
    let x = bind_ok (file_arguments verb ws) (λ call. Ok (File call)) c e in
    let same : File x.0 ≡ c = cc (x.2) in
    subst (λ (y : Call). Say (call_fields y) (file_word verb ∷ ws)) same (file_says verb ws x.0 x.1)
arguments_say (verbs.Directory verb) ws c e =
    let x = bind_ok (directory_arguments verb ws) (λ call. Ok (Directory call)) c e in
    let same : Directory x.0 ≡ c = cc (x.2) in
    subst (λ (y : Call). Say (call_fields y) (directory_word verb ∷ ws)) same (directory_says verb ws x.0 x.1)
arguments_say (verbs.Logbook verb) ws c e =
    let x = bind_ok (logbook_arguments verb ws) (λ call. Ok (Logbook call)) c e in
    let same : Logbook x.0 ≡ c = cc (x.2) in
    subst (λ (y : Call). Say (call_fields y) (logbook_word verb ∷ ws)) same (logbook_says verb ws x.0 x.1)
arguments_say (verbs.Sampling verb) ws c e =
    let x = bind_ok (sampling_arguments verb ws) (λ call. Ok (Sampling call)) c e in
    let same : Sampling x.0 ≡ c = cc (x.2) in
    subst (λ (y : Call). Say (call_fields y) (sampling_word verb ∷ ws)) same (sampling_says verb ws x.0 x.1)
arguments_say verbs.Mode ws c e =
    let s = one_says (λ m. keyword (mode_word m)) mode_at mode_reader SetMode ws c e in
    says call_fields (codes "MODE") ws _ c _ (lit< tt) s.1 s.2 refl
arguments_say verbs.Context ws c e =
    let s = one_says (λ m. keyword (context_word m)) context_at context_reader SetContext ws c e in
    says call_fields (codes "CONTEXT") ws _ c _ (lit< tt) s.1 s.2 refl

-- what the words of a call are read as, they say
say_call : (verb : Verb) (w : List ℕ) (ws : List (List ℕ)) (c : Call) → w ≡ verb_word verb → arguments_at verb ws ≡ Ok c → Say (call_fields c) (w ∷ ws)
say_call verb w ws c first e = rw first (arguments_say verb ws c e)

pub call_says : (ws : List (List ℕ)) (c : Call) → call_at ws ≡ Ok c → Say (call_fields c) ws
unfolding call_at IsWordOf
call_says [] c e = absurd cc
call_says (w ∷ ws) c e =
    let v = bind_ok (or_fault UnknownCall (verb_at w)) (λ verb. arguments_at verb ws) c e in
    let found = verb_is w v.0 (or_fault_ok UnknownCall (verb_at w) v.0 v.1) in
    say_call v.0 w ws c found.0 v.2

-- what says a call is read as that call
named : (verb : Verb) (w : List ℕ) (ws : List (List ℕ)) → w ≡ verb_word verb → call_at (w ∷ ws) ≡ arguments_at verb ws
unfolding call_at
named verb w ws same = rw (same, verb_found verb) refl

no_words : (f : Field) (fs : List Field) → Say (f ∷ fs) [] → ⊥
no_words f fs s = s.spelled

file_call : (c : FileCall) (w : List ℕ) (ws : List (List ℕ)) → Say (file_fields c) (w ∷ ws) → call_at (w ∷ ws) ≡ Ok (File c)
unfolding arguments_at
file_call c w ws s =
    let n = file_again c w ws s in
    named (verbs.File (file_verb_of c)) w ws n.first ∙ rw n.rest refl

file_none : (c : FileCall) → Say (file_fields c) [] → ⊥
file_none (file.OpenNewFile path) s = s.spelled
file_none (file.OpenFile path mode) s = s.spelled
file_none (file.CloseFile id) s = s.spelled
file_none (file.ReadFile id len) s = s.spelled
file_none (file.WriteFile id bs) s = s.spelled
file_none (file.SeekFile id by whence) s = s.spelled
file_none (file.ResizeFile id size) s = s.spelled
file_none (file.SyncFile id) s = s.spelled
file_none (file.RemoveFile path) s = s.spelled
file_none (file.RenameFile old new) s = s.spelled
file_none (file.GetFileStatus id) s = s.spelled
file_none (file.GetVolumeStatus path) s = s.spelled

directory_call : (c : DirCall) (w : List ℕ) (ws : List (List ℕ)) → Say (directory_fields c) (w ∷ ws) → call_at (w ∷ ws) ≡ Ok (Directory c)
unfolding arguments_at
directory_call c w ws s =
    let n = directory_again c w ws s in
    named (verbs.Directory (directory_verb_of c)) w ws n.first ∙ rw n.rest refl

directory_none : (c : DirCall) → Say (directory_fields c) [] → ⊥
directory_none (directory.OpenDirectory path) s = s.spelled
directory_none (directory.CloseDirectory id) s = s.spelled
directory_none (directory.ReadDirectory id) s = s.spelled
directory_none (directory.RewindDirectory id) s = s.spelled
directory_none (directory.MakeDirectory path) s = s.spelled
directory_none (directory.RemoveDirectory path) s = s.spelled
directory_none (directory.SyncDirectory id) s = s.spelled

logbook_call : (c : LogbookCall) (w : List ℕ) (ws : List (List ℕ)) → Say (logbook_fields c) (w ∷ ws) → call_at (w ∷ ws) ≡ Ok (Logbook c)
unfolding arguments_at
logbook_call c w ws s =
    let n = logbook_again c w ws s in
    named (verbs.Logbook (logbook_verb_of c)) w ws n.first ∙ rw n.rest refl

logbook_none : (c : LogbookCall) → Say (logbook_fields c) [] → ⊥
logbook_none (logbook.Create name) s = s.spelled
logbook_none (logbook.Write id bs) s = s.spelled
logbook_none (logbook.Overwrite id bs) s = s.spelled
logbook_none (logbook.Read id count) s = s.spelled
logbook_none (logbook.Clear id) s = s.spelled
logbook_none (logbook.GetId name) s = s.spelled
logbook_none (logbook.GetStatus id) s = s.spelled

sampling_call : (c : SamplingCall) (w : List ℕ) (ws : List (List ℕ)) → Say (sampling_fields c) (w ∷ ws) → call_at (w ∷ ws) ≡ Ok (Sampling c)
unfolding arguments_at
sampling_call c w ws s =
    let n = sampling_again c w ws s in
    named (verbs.Sampling (sampling_verb_of c)) w ws n.first ∙ rw n.rest refl

sampling_none : (c : SamplingCall) → Say (sampling_fields c) [] → ⊥
sampling_none (sampling.Create name) s = s.spelled
sampling_none (sampling.Write id bs) s = s.spelled
sampling_none (sampling.ReadUpdated id) s = s.spelled
sampling_none (sampling.CurrentStatus id) s = s.spelled
sampling_none (sampling.ReadConditional id time) s = s.spelled

pub call_again : (c : Call) (ws : List (List ℕ)) → Say (call_fields c) ws → call_at ws ≡ Ok c
unfolding arguments_at
call_again (File c) [] s = absurd (file_none c s)
call_again (File c) (w ∷ ws) s = file_call c w ws s
call_again (Directory c) [] s = absurd (directory_none c s)
call_again (Directory c) (w ∷ ws) s = directory_call c w ws s
call_again (Logbook c) [] s = absurd (logbook_none c s)
call_again (Logbook c) (w ∷ ws) s = logbook_call c w ws s
call_again (Sampling c) [] s = absurd (sampling_none c s)
call_again (Sampling c) (w ∷ ws) s = sampling_call c w ws s
call_again (SetMode mode) [] s = absurd s.spelled
call_again (SetMode mode) (w ∷ ws) s =
    named verbs.Mode w ws s.spelled.0 ∙ one_again (λ m. keyword (mode_word m)) mode_at mode_reader SetMode ws mode (record { spelled = s.spelled.1; filled = s.filled.1 })
call_again (SetContext context) [] s = absurd s.spelled
call_again (SetContext context) (w ∷ ws) s =
    named verbs.Context w ws s.spelled.0 ∙ one_again (λ m. keyword (context_word m)) context_at context_reader SetContext ws context (record { spelled = s.spelled.1; filled = s.filled.1 })
