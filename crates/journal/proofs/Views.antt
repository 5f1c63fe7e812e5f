-- A journal is open or shut, and its calls go by that.
use Rattle.std.proofs.Common.{◌≡◌, ℕ, false, is_some, Some, None, Ok, Option, Bor, sym, refl, ap, subst, arith}
use Rattle.std.specs.Option.{option_map, ok_or}
use Rattle.disk.specs.Meaning.{Blocks}
use Rattle.model.specs.declared.Fault.TheVariants.{Shut}
use Rattle.model.specs.Outcomes.{refused_by, within}
use Rattle.model.specs.Calls.{Call, buffer_of, called, outcome}
use Rattle.journal.specs.declared.opened.Open.{Open}
use Rattle.journal.specs.View.{open_view}

pub is_some_mapped : {X Y : Type 0} (f : X → Y) (o : Option X) → is_some (option_map f o) ≡ is_some o
is_some_mapped f None = refl
is_some_mapped f (Some x) = refl

pub mapped_twice : {X Y Z : Type 0} (g : Y → Z) (f : X → Y) (o : Option X) → option_map (λ x. g (f x)) o ≡ option_map g (option_map f o)
mapped_twice g f None = refl
mapped_twice g f (Some x) = refl

pub is_some_not : {X : Type 0} (o : Option X) → is_some o ≡ false → o ≡ None
is_some_not None e = refl
is_some_not (Some x) e = let z : ◌≡◌ {A = ℕ} 0 1 = cc in absurd (omega arith)

-- a call of a shut journal, and of an open one
module _ (c : Call) (s : Option Open) (d : Blocks) where
  pub while_shut : None ≡ s → outcome c (option_map open_view s) d ≡ refused_by Shut (buffer_of c) (option_map open_view s) d
  while_shut e = subst (λ x. outcome c (option_map open_view x) d ≡ refused_by Shut (buffer_of c) (option_map open_view x) d) e refl

  pub while_open : (o : Open) → Some o ≡ s → outcome c (option_map open_view s) d ≡ within Some (called c (open_view o) d)
  while_open o e = ap (λ x. outcome c (option_map open_view x) d) (sym e)

-- what is taken out of an option is what it held
pub table_taken : {T F : Type 0} (r : Option (Bor T)) (f : F) (x : Bor T) → Ok x ≡ ok_or r f → Some x.now ≡ option_map (λ y. y.now) r
table_taken None f x e = let z : ◌≡◌ {A = ℕ} 0 1 = cc in absurd (omega arith)
table_taken (Some y) f x e = let g : x ≡ y = cc in ap (λ w. Some w.now) g
