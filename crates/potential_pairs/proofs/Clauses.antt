-- What holds at an `Ok`, from what else holds there.
use Rattle.std.proofs.Common.{Result, Ok, Err}
use Rattle.std.specs.Result.{IfOk, OnOk}

module _ {T E P : Type 0} where
  pub on_ok_always : (r : Result T E) → P → OnOk r P
  on_ok_always (Ok x) p = p
  on_ok_always (Err e) p = tt

  pub on_ok : {Q : Type 0} (r : Result T E) → (P → Q) → OnOk r P → OnOk r Q
  on_ok (Ok x) f p = f p
  on_ok (Err e) f p = tt

pub if_ok : {T E : Type 0} {P Q : T → Type 0} (r : Result T E) → ((x : T) → P x → Q x) → IfOk r P → IfOk r Q
if_ok (Ok x) f p = f x p
if_ok (Err e) f p = tt
