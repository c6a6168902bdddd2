-- No reply's line is taken for another kind of line.
use Rattle.std.proofs.Common.{◌≡◌, ◌≢◌, ◌⊎◌, inl, inr, ⊎_elim, ℕ, true, false, not, ◌&&◌, List, [], ◌∷◌, ◌++◌, refl, sym, ap, ◌∙◌, subst, arith, append_assoc, Option, Some, None}
use Rattle.std.specs.Prelude.{nat_le, length, codes, decimal, bytes_eq, IsTrue}
use Rattle.std.specs.Cmp.Derive.{both_true}
use Rattle.std.specs.List.{list_all, AllByRecursion}
use Rattle.std.proofs.lemmas.Bool.{false_from_ne_true}
use Rattle.std.proofs.lemmas.Bool.Decides.{nat_tests}
use Rattle.std.proofs.lemmas.Slice.Eq.{bytes_eq-Decides}
use Rattle.apex_types.specs.Naming.{is_name_byte, is_spelled_as_name, is_name}
use Rattle.apex_types.specs.declared.codes.Errno.{Errno}
use Rattle.apex_types.specs.declared.codes.Errno.TheVariants as errno
use Rattle.apex_types.specs.declared.codes.ReturnCode.{ReturnCode}
use Rattle.apex_types.specs.declared.codes.ReturnCode.TheVariants as code
use Rattle.apex_types.specs.declared.replies.Values.{Values}
use Rattle.apex_types.specs.declared.replies.Values.TheVariants as values
use Rattle.apex_types.specs.declared.replies.EntryState.{EntryState}
use Rattle.apex_types.specs.declared.replies.EntryState.TheVariants.{InProgress, Complete}
use Rattle.apex_types.specs.declared.replies.Updated.{Updated}
use Rattle.apex_types.specs.declared.replies.Updated.TheVariants.{EmptyPort, NewMessage, ConsumedMessage}
use Rattle.apex_types.specs.declared.replies.Validity.{Validity}
use Rattle.apex_types.specs.declared.replies.Validity.TheVariants.{Valid, Invalid}
use Rattle.apex_model.specs.Run.{code_text, errno_text, updated_text, validity_text, state_text, data_text, value_words, spaced}
use Rattle.apex_model.specs.Texts.{Text}
use Rattle.apex_model.specs.ToldText.{ends_in}
use Rattle.apex_model.proofs.AcceptedTables.{and-left, and-right}
use Rattle.apex_model.proofs.ToldText.{last_byte, last_byte-append}
use Rattle.model_laws.specs.ReplyLines.{HasNames, RepliesHaveNoFeed, NoReplyEndsRun, OtherLinesArePlain}
use Rattle.model_laws.proofs.Words.{is_visible, IsWord, AreFigures, decimal-figures, data_text-figures, decimal-word, data_text-word, word-no_feed, joined-no_feed, spaced-no_feed, last_word, before_last, ends-in_last, one-last, front-of}

-- ---- each word of a reply is one

name_byte-visible : (b : ℕ) → is_name_byte b ≡ true → is_visible b ≡ true
name_byte-visible b h = grind (arith, nat_tests)

spelled-word : (name : Text) → list_all is_name_byte name ≡ true → IsWord name
spelled-word [] h = refl
spelled-word (b ∷ name) h = both_true (name_byte-visible b (and-left (is_name_byte b) _ h)) (spelled-word name (and-right (is_name_byte b) _ h))

name-word : (name : Text) → IsTrue (is_name name) → IsWord name
name-word name h =
    let spelled : is_spelled_as_name name ≡ true = and-right (nat_le (length name) 56) _ h in
    spelled-word name (and-right (nat_le 1 (length name)) _ (and-left (nat_le 1 (length name) && list_all is_name_byte name) _ spelled))

code-word : (c : ReturnCode) → IsWord (code_text c)
code-word code.NoError = refl
code-word code.NoAction = refl
code-word code.NotAvailable = refl
code-word code.InvalidParam = refl
code-word code.InvalidConfig = refl
code-word code.InvalidMode = refl
code-word code.TimedOut = refl

updated-word : (u : Updated) → IsWord (updated_text u)
updated-word EmptyPort = refl
updated-word NewMessage = refl
updated-word ConsumedMessage = refl

validity-word : (v : Validity) → IsWord (validity_text v)
validity-word Valid = refl
validity-word Invalid = refl

state-word : (s : EntryState) → IsWord (state_text s)
state-word InProgress = refl
state-word Complete = refl

-- ---- words that end neither a failed read nor a run

abbrev eio : Text
eio = codes "EIO"

abbrev halted : Text
halted = codes "HALTED"

-- a word that is neither of these two
record IsOther (text : Text) : Type 0 where
  read : text ≢ eio
  end : text ≢ halted

differs : (text end : Text) → not (bytes_eq text end) ≡ true → text ≢ end
differs text end h e = let same : bytes_eq text end ≡ true = (bytes_eq-Decides text end).1 e in let wrong : false ≡ true = ap not (sym same) ∙ h in cc

known-other : (text : Text) → (not (bytes_eq text eio) && not (bytes_eq text halted)) ≡ true → IsOther text
known-other text h = record { read = differs text eio (and-left (not (bytes_eq text eio)) _ h); end = differs text halted (and-right (not (bytes_eq text eio)) _ h) }

figures-other : (text : Text) → AreFigures text → IsOther text
figures-other text h = record {
  read = λ e. let wrong : false ≡ true = subst AreFigures e h in cc;
  end = λ e. let wrong : false ≡ true = subst AreFigures e h in cc;
}

number-other : (n : ℕ) → IsOther (decimal n)
number-other n = figures-other (decimal n) (decimal-figures n)

data-other : (bytes : List ℕ) → IsOther (data_text bytes)
data-other bytes = figures-other (data_text bytes) (data_text-figures bytes)

updated-other : (u : Updated) → IsOther (updated_text u)
updated-other EmptyPort = known-other (codes "EMPTY_PORT") refl
updated-other NewMessage = known-other (codes "NEW_MESSAGE") refl
updated-other ConsumedMessage = known-other (codes "CONSUMED_MESSAGE") refl

-- the text of an errno is a visible word and none of the two, but for EIO's
errno-known : (o : Option Errno) → (o ≡ Some errno.Eio)
    ⊎ ((list_all is_visible (errno_text o) && (not (bytes_eq (errno_text o) halted) && not (bytes_eq (errno_text o) eio))) ≡ true)
errno-known None = inr refl
errno-known (Some errno.Eperm) = inr refl
errno-known (Some errno.Einval) = inr refl
errno-known (Some errno.Enametoolong) = inr refl
errno-known (Some errno.Ebadf) = inr refl
errno-known (Some errno.Enoent) = inr refl
errno-known (Some errno.Enotdir) = inr refl
errno-known (Some errno.Eisdir) = inr refl
errno-known (Some errno.Eexist) = inr refl
errno-known (Some errno.Eacces) = inr refl
errno-known (Some errno.Enospc) = inr refl
errno-known (Some errno.Emfile) = inr refl
errno-known (Some errno.Efbig) = inr refl
errno-known (Some errno.Eoverflow) = inr refl
errno-known (Some errno.Ebusy) = inr refl
errno-known (Some errno.Estale) = inr refl
errno-known (Some errno.Enotempty) = inr refl
errno-known (Some errno.Eio) = inl refl

errno-word : (o : Option Errno) → IsWord (errno_text o)
errno-word o = ⊎_elim (λ is. subst (λ (e : Option Errno). IsWord (errno_text e)) (sym is) refl) (λ tests. and-left (list_all is_visible (errno_text o)) _ tests) (errno-known o)

errno-end : (o : Option Errno) → not (bytes_eq (errno_text o) halted) ≡ true
errno-end o = ⊎_elim (λ is. subst (λ (e : Option Errno). not (bytes_eq (errno_text e) halted) ≡ true) (sym is) refl)
    (λ tests. and-left (not (bytes_eq (errno_text o) halted)) _ (and-right (list_all is_visible (errno_text o)) _ tests)) (errno-known o)

errno-read : (o : Option Errno) → o ≢ Some errno.Eio → not (bytes_eq (errno_text o) eio) ≡ true
errno-read o other = ⊎_elim (λ is. absurd (other is)) (λ tests. and-right (not (bytes_eq (errno_text o) halted)) _ (and-right (list_all is_visible (errno_text o)) _ tests)) (errno-known o)

values-words : (v : Values) → HasNames v → AllByRecursion IsWord (value_words v)
values-words values.Empty h = tt
values-words (values.Number n) h = (decimal-word n, tt)
values-words (values.Read bytes) h = (decimal-word (length bytes), (data_text-word bytes, tt))
values-words (values.FileStatus size position changes) h = (decimal-word size, (decimal-word position, (decimal-word changes, tt)))
values-words (values.VolumeStatus quota charge files) h = (decimal-word quota, (decimal-word charge, (decimal-word files, tt)))
values-words (values.FileEntry name size) h = (refl, (name-word name h, (decimal-word size, tt)))
values-words (values.DirectoryEntry name) h = (refl, (name-word name h, tt))
values-words values.EndOfDirectory h = (refl, tt)
values-words (values.Entry state bytes) h = (state-word state, (decimal-word (length bytes), (data_text-word bytes, tt)))
values-words (values.LogbookStatus a b c d e) h = (decimal-word a, (decimal-word b, (decimal-word c, (decimal-word d, (decimal-word e, tt)))))
values-words (values.SourceStatus size refresh) h = (refl, (decimal-word size, (decimal-word refresh, tt)))
values-words (values.EmptyStatus size refresh) h = (refl, (decimal-word size, (decimal-word refresh, (refl, tt))))
values-words (values.PortStatus size refresh updated validity age) h =
    (refl, (decimal-word size, (decimal-word refresh, (updated-word updated, (validity-word validity, (decimal-word age, tt))))))
values-words (values.Message updated validity bytes) h = (updated-word updated, (validity-word validity, (decimal-word (length bytes), (data_text-word bytes, tt))))
values-words (values.State updated) h = (updated-word updated, tt)

-- ---- no line feed

pub replies-no_feed : RepliesHaveNoFeed
replies-no_feed number reply h = joined-no_feed (decimal number) _ (word-no_feed (decimal number) (decimal-word number))
    (spaced-no_feed (code_text reply.code ∷ errno_text reply.errno ∷ value_words reply.values) (code-word reply.code, (errno-word reply.errno, values-words reply.values h)))

-- ---- how a line ends

-- how a line ends that has these words after a text, where the last one is a word
module _ (front word : Text) (words : List Text) (one : IsWord (last_word word words)) where
  read-ends : ends_in (codes " NOT_AVAILABLE EIO") (front ++ spaced (word ∷ words)) ≡ true → (last_word word words ≡ eio) × (last_byte (before_last front word words) ≡ 69)
  read-ends e =
      let found = front-of (codes " NOT_AVAILABLE EIO") (front ++ spaced (word ∷ words)) e in
      let ends : before_last front word words ++ 32 ∷ last_word word words ≡ (found.0 ++ codes " NOT_AVAILABLE") ++ 32 ∷ eio
      = sym (ends-in_last front word words) ∙ found.1 ∙ sym (append_assoc found.0 (codes " NOT_AVAILABLE") (32 ∷ eio)) in
      let same = one-last (before_last front word words) (found.0 ++ codes " NOT_AVAILABLE") (last_word word words) eio one refl ends in
      (same.1, ap last_byte same.0 ∙ last_byte-append found.0 32 (codes "NOT_AVAILABLE"))

  run-ends : ends_in (codes " NOT_AVAILABLE EIO HALTED") (front ++ spaced (word ∷ words)) ≡ true → (last_word word words ≡ halted) × (last_byte (before_last front word words) ≡ 79)
  run-ends e =
      let found = front-of (codes " NOT_AVAILABLE EIO HALTED") (front ++ spaced (word ∷ words)) e in
      let ends : before_last front word words ++ 32 ∷ last_word word words ≡ (found.0 ++ codes " NOT_AVAILABLE EIO") ++ 32 ∷ halted
      = sym (ends-in_last front word words) ∙ found.1 ∙ sym (append_assoc found.0 (codes " NOT_AVAILABLE EIO") (32 ∷ halted)) in
      let same = one-last (before_last front word words) (found.0 ++ codes " NOT_AVAILABLE EIO") (last_word word words) halted one refl ends in
      (same.1, ap last_byte same.0 ∙ last_byte-append found.0 32 (codes "NOT_AVAILABLE EIO"))

all-last : (word : Text) (words : List Text) → IsWord word → AllByRecursion IsWord words → IsWord (last_word word words)
all-last word [] h k = h
all-last word (next ∷ words) h k = all-last next words k.0 k.1

abbrev words_after : Option Errno → Values → List Text
words_after e v = errno_text e ∷ value_words v

-- A line with these words after a text is no end of a run, and that of a failed read only where the errno is EIO.
record EndsPlainly (front : Text) (c : ReturnCode) (e : Option Errno) (v : Values) : Type 0 where
  read : e ≢ Some errno.Eio → ends_in (codes " NOT_AVAILABLE EIO") (front ++ spaced (code_text c ∷ words_after e v)) ≡ false
  end : ends_in (codes " NOT_AVAILABLE EIO HALTED") (front ++ spaced (code_text c ∷ words_after e v)) ≡ false

module _ (front : Text) (c : ReturnCode) (e : Option Errno) where
  last-is_word : (v : Values) → HasNames v → IsWord (last_word (code_text c) (words_after e v))
  last-is_word v h = all-last (code_text c) (words_after e v) (code-word c) (errno-word e, values-words v h)

  -- by the last word, where it is no name
  by-last : (v : Values) → HasNames v → IsOther (last_word (code_text c) (words_after e v)) → EndsPlainly front c e v
  by-last v h other = record {
    read = λ _. false_from_ne_true _ (λ ends. other.read (read-ends front (code_text c) (words_after e v) (last-is_word v h) ends).0);
    end = false_from_ne_true _ (λ ends. other.end (run-ends front (code_text c) (words_after e v) (last-is_word v h) ends).0);
  }

  by-errno : EndsPlainly front c e values.Empty
  by-errno = record {
    read = λ h. false_from_ne_true _ (λ ends. differs (errno_text e) eio (errno-read e h) (read-ends front (code_text c) (words_after e values.Empty) (last-is_word values.Empty tt) ends).0);
    end = false_from_ne_true _ (λ ends. differs (errno_text e) halted (errno-end e) (run-ends front (code_text c) (words_after e values.Empty) (last-is_word values.Empty tt) ends).0);
  }

  -- by the word before a directory's name, which ends in Y
  by-directory : (name : Text) → IsTrue (is_name name) → EndsPlainly front c e (values.DirectoryEntry name)
  by-directory name h =
      let v = values.DirectoryEntry name in
      let before = last_byte-append ((front ++ 32 ∷ code_text c) ++ 32 ∷ errno_text e) 32 (codes "DIRECTORY") in
      record {
        read = λ _. false_from_ne_true _ (λ ends. let wrong : ◌≡◌ {A = ℕ} 89 69 = sym before ∙ (read-ends front (code_text c) (words_after e v) (last-is_word v h) ends).1 in omega (arith, wrong));
        end = false_from_ne_true _ (λ ends. let wrong : ◌≡◌ {A = ℕ} 89 79 = sym before ∙ (run-ends front (code_text c) (words_after e v) (last-is_word v h) ends).1 in omega (arith, wrong));
      }

  ends-plainly : (v : Values) → HasNames v → EndsPlainly front c e v
  ends-plainly values.Empty h = by-errno
  ends-plainly (values.Number n) h = by-last (values.Number n) h (number-other n)
  ends-plainly (values.Read bytes) h = by-last (values.Read bytes) h (data-other bytes)
  ends-plainly (values.FileStatus size position changes) h = by-last (values.FileStatus size position changes) h (number-other changes)
  ends-plainly (values.VolumeStatus quota charge files) h = by-last (values.VolumeStatus quota charge files) h (number-other files)
  ends-plainly (values.FileEntry name size) h = by-last (values.FileEntry name size) h (number-other size)
  ends-plainly (values.DirectoryEntry name) h = by-directory name h
  ends-plainly values.EndOfDirectory h = by-last values.EndOfDirectory h (known-other (codes "END") refl)
  ends-plainly (values.Entry state bytes) h = by-last (values.Entry state bytes) h (data-other bytes)
  ends-plainly (values.LogbookStatus a b m n k) h = by-last (values.LogbookStatus a b m n k) h (number-other k)
  ends-plainly (values.SourceStatus size refresh) h = by-last (values.SourceStatus size refresh) h (number-other refresh)
  ends-plainly (values.EmptyStatus size refresh) h = by-last (values.EmptyStatus size refresh) h (known-other (codes "EMPTY_PORT") refl)
  ends-plainly (values.PortStatus size refresh updated validity age) h = by-last (values.PortStatus size refresh updated validity age) h (number-other age)
  ends-plainly (values.Message updated validity bytes) h = by-last (values.Message updated validity bytes) h (data-other bytes)
  ends-plainly (values.State updated) h = by-last (values.State updated) h (updated-other updated)

pub no-reply_ends : NoReplyEndsRun
no-reply_ends number reply h = (ends-plainly (decimal number) reply.code reply.errno reply.values h).end

pub others-plain : OtherLinesArePlain
others-plain number reply h other = record {
  no_feed = replies-no_feed number reply h;
  not_failed = (ends-plainly (decimal number) reply.code reply.errno reply.values h).read other;
  not_ended = no-reply_ends number reply h;
}
