-- A reply of EIO to a call that reads is that of a call whose read failed.
use Rattle.std.proofs.Common.{◌≡◌, Bool, true, false, ◌&&◌, refl, ap, ◌∙◌, Option, Some, None}
use Rattle.std.proofs.lemmas.Bool.{false≢true}
use Rattle.std.specs.Option.{ForSome}
use Rattle.apex_types.specs.declared.calls.Line.{Line}
use Rattle.apex_types.specs.declared.codes.Errno.{Errno}
use Rattle.apex_types.specs.declared.codes.Errno.TheVariants.{Eperm, Einval, Enametoolong, Ebadf, Enoent, Enotdir, Eisdir, Eexist, Eacces, Enospc, Emfile, Efbig, Eoverflow, Ebusy, Estale, Enotempty, Eio}
use Rattle.apex_types.specs.declared.replies.Reply.{Reply}
use Rattle.apex_model.proofs.AcceptedTables.{and-left, and-right}
use Rattle.model_laws.specs.RunText.{tells_eio}
use Rattle.module_session.specs.Sessions.{reads_in}
use Rattle.rig_core.specs.Causes.{Rose}
use Rattle.rig_core.specs.Outside.{Outside}
use Rattle.service_parts.specs.Serving.{EioOnlyIfRead}
use Rattle.script_run.specs.Heard.{has_eio, is_unread}

-- the test holds of EIO alone
is-eio : (o : Option Errno) → tells_eio o ≡ true → o ≡ Some Eio
is-eio None is = absurd (false≢true is)
is-eio (Some Eperm) is = absurd (false≢true is)
is-eio (Some Einval) is = absurd (false≢true is)
is-eio (Some Enametoolong) is = absurd (false≢true is)
is-eio (Some Ebadf) is = absurd (false≢true is)
is-eio (Some Enoent) is = absurd (false≢true is)
is-eio (Some Enotdir) is = absurd (false≢true is)
is-eio (Some Eisdir) is = absurd (false≢true is)
is-eio (Some Eexist) is = absurd (false≢true is)
is-eio (Some Eacces) is = absurd (false≢true is)
is-eio (Some Enospc) is = absurd (false≢true is)
is-eio (Some Emfile) is = absurd (false≢true is)
is-eio (Some Efbig) is = absurd (false≢true is)
is-eio (Some Eoverflow) is = absurd (false≢true is)
is-eio (Some Ebusy) is = absurd (false≢true is)
is-eio (Some Estale) is = absurd (false≢true is)
is-eio (Some Enotempty) is = absurd (false≢true is)
is-eio (Some Eio) is = refl

reply-failed : (o e : Outside) (reply : Option Reply) → has_eio reply ≡ true → ForSome reply (EioOnlyIfRead o e) → Rose o.read_faults e.read_faults
reply-failed o e None unread only = absurd (false≢true unread)
reply-failed o e (Some reply) unread only = only reply refl (is-eio reply.errno unread)

pub unread-cause : (o e : Outside) (line : Line) (reply : Option Reply) → is_unread line reply ≡ true → (reads_in line.deed ≡ true → ForSome reply (EioOnlyIfRead o e)) → Rose o.read_faults e.read_faults
unread-cause o e line reply unread only = reply-failed o e reply (and-right (reads_in line.deed) (has_eio reply) unread) (only (and-left (reads_in line.deed) (has_eio reply) unread))
