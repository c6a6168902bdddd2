-- Replies that are no EIO, and the one that is.
use Rattle.std.proofs.Common.{◌≡◌, ℕ, Bool, true, false, Option, Some, None, refl, sym, ap, ◌∙◌}
use Rattle.std.specs.Prelude.{if◌then◌else◌, nat_lt, slice_set, ◌==◌}
use Rattle.apex_types.specs.declared.codes.Errno.{Errno}
use Rattle.apex_types.specs.declared.codes.Errno.TheVariants.{Efbig, Enospc, Eoverflow, Eio}
use Rattle.apex_types.specs.declared.replies.Reply.{Reply}
use Rattle.apex_types.specs.declared.replies.Values.{Values}
use Rattle.apex_model.specs.Outcomes.{refusal, success}
use Rattle.model_laws.specs.RunText.{tells_eio}
use Rattle.model_laws.proofs.PlainSteps.{not-eio}
use Rattle.rig_core.specs.Outside.{Outside}
use Rattle.store_model.specs.Stores.{StoreValue, change_refusal, charge_with, kept_at, total}
use Rattle.service_parts.specs.Serving.{EioOnlyIfRead}

-- another errno
pub refused-unread : (o e : Outside) (told : Reply) (errno : Errno) → tells_eio (Some errno) ≡ false → told ≡ refusal errno → EioOnlyIfRead o e told
refused-unread o e told errno other is eio = absurd (not-eio (Some errno) other (sym (ap (λ (r : Reply). r.errno) is) ∙ eio))

-- none
pub success-unread : (o e : Outside) (told : Reply) (values : Values) → told ≡ success values → EioOnlyIfRead o e told
success-unread o e told values is eio = absurd (let w : ◌≡◌ {A = Option Errno} None (Some Eio) = sym (ap (λ (r : Reply). r.errno) is) ∙ eio in cc)

-- by three tests, one after the other
by-tests : (large full many : Bool) → tells_eio (if large then Some Efbig else if full then Some Enospc else if many then Some Eoverflow else None) ≡ false
by-tests true full many = refl
by-tests false true many = refl
by-tests false false true = refl
by-tests false false false = refl

-- why a file may not get a size
pub changing-unread : (o e : Outside) (told : Reply) (v : StoreValue) (f size : ℕ) (errno : Errno) → change_refusal v f size ≡ Some errno → told ≡ refusal errno → EioOnlyIfRead o e told
changing-unread o e told v f size errno refused is =
    refused-unread o e told errno (ap tells_eio (sym refused) ∙ by-tests (nat_lt 1048576 size) (nat_lt v.quota (total (slice_set v.charges f (charge_with v f size)))) ((kept_at v f).changes == 4294967295)) is
