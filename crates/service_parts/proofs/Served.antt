-- When calls are served: refused, or carried out.
use Rattle.std.proofs.Common.{◌≡◌, ◌≢◌, Bool, true, false, List, Option, Some, None, refl, sym, ◌∙◌, ap, subst}
use Rattle.std.specs.Prelude.{is_some, Ok}
use Rattle.apex_types.specs.Codes.{code_of_errno}
use Rattle.apex_types.specs.Rows.{Rows}
use Rattle.apex_types.specs.declared.codes.Errno.{Errno}
use Rattle.apex_types.specs.declared.codes.Errno.TheVariants.{Eperm, Einval, Enametoolong, Ebadf, Enoent, Enotdir, Eisdir, Eexist, Eacces, Enospc, Emfile, Efbig, Eoverflow, Ebusy, Estale, Enotempty, Eio}
use Rattle.apex_types.specs.declared.codes.ReturnCode.TheVariants.{NoError}
use Rattle.apex_types.specs.declared.replies.Reply.{Reply}
use Rattle.apex_types.specs.declared.replies.Values.{Values}
use Rattle.apex_model.specs.FileSystem.{FileSystem}
use Rattle.apex_model.specs.Outcomes.{Outcome, accepted, success, refusal, reply_of, state_after, refuse}
use Rattle.open_handles.specs.NodeHandles.{AllHandles}
use Rattle.rig_core.specs.Outside.{Outside}
use Rattle.store_model.specs.Stores.{StoreValue}
use Rattle.store_model.specs.Systems.{Stands, IsOfTable}
use Rattle.tree_store.specs.Serving.{IsAccepting}
use Rattle.service_parts.specs.Serving.{MakesFourIfDone, Serves}
use Rattle.service_parts.specs.Told.{IsTellable}

-- what a test of an option says of it
pub some-there : {A : Type 0} (o : Option A) → is_some o ≡ true → (a : A) × (o ≡ Some a)
some-there None e = absurd (let w : ◌≡◌ {A = Bool} false true = e in cc)
some-there (Some a) e = (a, refl)

pub none-there : {A : Type 0} (o : Option A) → is_some o ≡ false → o ≡ None
none-there None e = refl
none-there (Some a) e = absurd (let w : ◌≡◌ {A = Bool} true false = e in cc)

-- in a file system a step is carried out with these values, and stores and handles stand for what comes of it
pub record Goes (step : FileSystem → Outcome FileSystem) (stores : List StoreValue) (handles : AllHandles) (values : Values) (fs : FileSystem) : Type 0 where
  pub after : FileSystem
  pub is : step fs ≡ accepted after values
  pub stands : Stands stores handles after

-- such a step is accepted
pub accepting : {step : FileSystem → Outcome FileSystem} {stores : List StoreValue} {handles : AllHandles} {values : Values} {fs : FileSystem} → Goes step stores handles values fs → IsAccepting (step fs)
accepting {step} {stores} {handles} {values} {fs} goes = (goes.after, values, goes.is)

-- what is carried out can be told
pub success-told : {values : Values} {told : Reply} → told ≡ success values → IsTellable told
success-told {values} {told} is = subst (λ (r : Reply). IsTellable r) (sym is) (λ data_there. refl)

-- a refusal has another code than what is carried out
refusal-code : (e : Errno) → code_of_errno e ≢ NoError
refusal-code Eperm is = absurd cc
refusal-code Einval is = absurd cc
refusal-code Enametoolong is = absurd cc
refusal-code Ebadf is = absurd cc
refusal-code Enoent is = absurd cc
refusal-code Enotdir is = absurd cc
refusal-code Eisdir is = absurd cc
refusal-code Eexist is = absurd cc
refusal-code Eacces is = absurd cc
refusal-code Enospc is = absurd cc
refusal-code Emfile is = absurd cc
refusal-code Efbig is = absurd cc
refusal-code Eoverflow is = absurd cc
refusal-code Ebusy is = absurd cc
refusal-code Estale is = absurd cc
refusal-code Enotempty is = absurd cc
refusal-code Eio is = absurd cc

-- so what is refused makes as many calls as may be
pub refused-makes : (K : Type 0) (o e : Outside) (told : Reply) (errno : Errno) → told ≡ refusal errno → MakesFourIfDone K o e (Ok told)
refused-makes K o e told errno is kept done = absurd (refusal-code errno (sym (ap (λ (r : Reply). r.code) is) ∙ done))

module _ (step : FileSystem → Outcome FileSystem) (stores : List StoreValue) (handles : AllHandles) where
  -- a refusal leaves all as it was
  pub refused-served : (e : Errno) → ((fs : FileSystem) → Stands stores handles fs → step fs ≡ refuse e) → Serves step stores handles stores handles (refusal e)
  refused-served e is = record {
    reply = λ fs s. sym (ap reply_of (is fs s));
    state = λ fs s. let P : Outcome FileSystem → Type 0 = λ o. Stands stores handles (state_after fs o) in subst P (sym (is fs s)) s;
    of_table = λ table o. o;
    tellable = λ data_there. absurd data_there;
  }

  -- what is carried out gives a reply without an errno
  pub accepted-served : (new_stores : List StoreValue) (new_handles : AllHandles) (values : Values) → ((fs : FileSystem) → Stands stores handles fs → Goes step new_stores new_handles values fs)
      → ((table : Rows) → IsOfTable table stores handles → IsOfTable table new_stores new_handles) → Serves step stores handles new_stores new_handles (success values)
  accepted-served new_stores new_handles values goes of_table = record {
    reply = λ fs s. sym (ap reply_of (goes fs s).is);
    state = λ fs s. let P : Outcome FileSystem → Type 0 = λ o. Stands new_stores new_handles (state_after fs o) in subst P (sym (goes fs s).is) (goes fs s).stands;
    of_table = of_table;
    tellable = λ data_there. refl;
  }

  -- the same step in other words
  pub step-served : (other : FileSystem → Outcome FileSystem) (new_stores : List StoreValue) (new_handles : AllHandles) (told : Reply) → ((fs : FileSystem) → Stands stores handles fs → step fs ≡ other fs)
      → Serves other stores handles new_stores new_handles told → Serves step stores handles new_stores new_handles told
  step-served other new_stores new_handles told same served = record {
    reply = λ fs s. served.reply fs s ∙ sym (ap reply_of (same fs s));
    state = λ fs s. let P : Outcome FileSystem → Type 0 = λ o. Stands new_stores new_handles (state_after fs o) in subst P (sym (same fs s)) (served.state fs s);
    of_table = served.of_table;
    tellable = served.tellable;
  }

  -- the same stores, handles and reply in other words
  pub served-as : (new_stores : List StoreValue) (new_handles : AllHandles) (told : Reply) (other_stores : List StoreValue) (other_handles : AllHandles) (other : Reply)
      → other_stores ≡ new_stores → other_handles ≡ new_handles → other ≡ told → Serves step stores handles new_stores new_handles told → Serves step stores handles other_stores other_handles other
  served-as new_stores new_handles told other_stores other_handles other a b c served =
      let P : List StoreValue → Type 0 = λ xs. Serves step stores handles xs other_handles other in
      let Q : AllHandles → Type 0 = λ hs. Serves step stores handles new_stores hs other in
      let R : Reply → Type 0 = λ r. Serves step stores handles new_stores new_handles r in
      subst P (sym a) (subst Q (sym b) (subst R (sym c) served))

-- the same in other words
pub served-new : {step : FileSystem → Outcome FileSystem} {stores new_stores other_stores : List StoreValue} {handles new_handles other_handles : AllHandles} {told other : Reply}
    → other_stores ≡ new_stores → other_handles ≡ new_handles → other ≡ told → Serves step stores handles new_stores new_handles told → Serves step stores handles other_stores other_handles other
served-new {step} {stores} {new_stores} {other_stores} {handles} {new_handles} {other_handles} {told} {other} a b c served =
    served-as step stores handles new_stores new_handles told other_stores other_handles other a b c served

pub served-told : {step : FileSystem → Outcome FileSystem} {stores new_stores : List StoreValue} {handles new_handles : AllHandles} {told other : Reply}
    → other ≡ told → Serves step stores handles new_stores new_handles told → Serves step stores handles new_stores new_handles other
served-told {step} {stores} {new_stores} {handles} {new_handles} {told} {other} c served = served-as step stores handles new_stores new_handles told new_stores new_handles other refl refl c served
