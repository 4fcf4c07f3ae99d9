-- What is written of a text where not all of it is written.
use Rattle.std.proofs.Common.{◌≡◌, ℕ, zero, suc, List, [], ◌∷◌, ◌++◌, take, Option, Some, None, Result, Ok, Err, refl, sym, ap, ◌∙◌, append-nil}
use Rattle.std.specs.Prelude.{OnErr}
use Rattle.std.specs.Io.KnownBytes.{Appends}
use Rattle.script_runs.specs.Channel.{AppendsFront}
use Rattle.script_runs.specs.declared.script.ScriptFault.{ScriptFault}
use Rattle.script_runs.specs.declared.script.ScriptFault.TheVariants.{OutOfMemory, CannotRead}

pub appends_none : (old : Option (List ℕ)) → Appends old old []
appends_none None = tt
appends_none (Some x) = sym (append-nil x)

pub record Front (text whole : List ℕ) : Type 0 where
  pub more : List ℕ
  pub is : whole ≡ text ++ more

-- a front of a front

take_front : (n : ℕ) (text more : List ℕ) → (m : ℕ) × (take m (text ++ more) ≡ take n text)
take_front zero text more = (0, refl)
take_front (suc n) [] more = (0, refl)
take_front (suc n) (b ∷ text) more = let rest = take_front n text more in (suc rest.0, ap (λ t. b ∷ t) rest.1)

moved : (old new : Option (List ℕ)) (a b : List ℕ) → a ≡ b → Appends old new a → Appends old new b
moved old new a b e h = rw (← e) h

pub front_written : (old new : Option (List ℕ)) (text whole : List ℕ) → Front text whole → AppendsFront old new text → AppendsFront old new whole
front_written old new text whole f h =
    let m = take_front h.0 text f.more in
    (m.0, moved old new (take h.0 text) (take m.0 whole) (sym m.1 ∙ ap (take m.0) (sym f.is)) h.1)

pub on_err : {S E : Type 0} {P : Type 0} (r : Result S E) → P → OnErr r P
on_err (Ok s) p = tt
on_err (Err e) p = p

-- a fault before the script was run

abbrev pub fault_in : {S : Type 0} → Result S ScriptFault → ScriptFault
fault_in (Ok s) = CannotRead
fault_in (Err fault) = fault

abbrev pub served_in : {S : Type 0} → Result S ScriptFault → ℕ
served_in (Err (OutOfMemory served)) = served
served_in r = 0
