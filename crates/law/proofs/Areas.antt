-- Commits laid on an area.
use Rattle.std.proofs.Common.{◌≡◌, ℕ, ◌<◌, ◌≤◌, Bool, true, false, cond, eqb, leb, List, [], ◌∷◌, ◌++◌, Some, None, Option, sym, refl, ap, ◌∙◌, subst, ⊎_elim, arith}
use Rattle.std.specs.Option.{option_map}
use Rattle.std.specs.List.{AllByRecursion}
use Rattle.std.proofs.lemmas.Bool.{le-leb, lt-leb, cases_lt}
use Rattle.disk.specs.Tests.{both}
use Rattle.disk.specs.Meaning.{Block}
use Rattle.object.specs.Objects.{laid}
use Rattle.object.specs.Tables.{Held, dirty_ones}
use Rattle.card.specs.Layout.{Area}
use Rattle.model.specs.Operations.{laid_in}
use Rattle.law.specs.Record.{Commit, lay, lay_all, up_to}
use Rattle.law.specs.Law.{Above}

mapped_twice : {X Y Z : Type 0} (g : Y → Z) (f : X → Y) (o : Option X) → option_map g (option_map f o) ≡ option_map (λ x. g (f x)) o
mapped_twice g f None = refl
mapped_twice g f (Some x) = refl

mapped_same : {X : Type 0} (o : Option X) → o ≡ option_map (λ x. x) o
mapped_same None = refl
mapped_same (Some x) = refl

-- one entry laid on a block
abbrev one : Held → ℕ → List ℕ → List ℕ
one h b bs = cond (both h.dirty (eqb h.place.block b)) (laid h.place h.bytes bs) bs

under : (t : Bool) (f : List ℕ → List ℕ) (x : Block) → cond t (option_map f x) x ≡ option_map (λ bs. cond t (f bs) bs) x
under true f x = refl
under false f x = mapped_same x

-- the dirty entries of a table laid on an area, block by block
lay_step : (t : Bool) (h : Held) (hs : List Held) (a : Area) (b : ℕ) → ((a : Area) → lay (dirty_ones hs) a b ≡ option_map (laid_in hs b) (a b)) →
    lay (cond t (h ∷ dirty_ones hs) (dirty_ones hs)) a b ≡ option_map (λ bs. laid_in hs b (cond (both t (eqb h.place.block b)) (laid h.place h.bytes bs) bs)) (a b)
lay_step true h hs a b rest =
    rest (λ c. cond (eqb h.place.block c) (option_map (laid h.place h.bytes) (a c)) (a c)) ∙
    ap (option_map (laid_in hs b)) (under (eqb h.place.block b) (laid h.place h.bytes) (a b)) ∙
    mapped_twice (laid_in hs b) (λ bs. cond (eqb h.place.block b) (laid h.place h.bytes bs) bs) (a b)
lay_step false h hs a b rest = rest a

pub lay_laid_in : (hs : List Held) (a : Area) (b : ℕ) → lay (dirty_ones hs) a b ≡ option_map (laid_in hs b) (a b)
lay_laid_in [] a b = mapped_same (a b)
lay_laid_in (h ∷ hs) a b = lay_step h.dirty h hs a b (λ c. lay_laid_in hs c b)

pub lay_all_push : (cs : List Commit) (c : Commit) (a : Area) → lay_all (cs ++ c ∷ []) a ≡ lay c.objects (lay_all cs a)
lay_all_push [] c a = refl
lay_all_push (x ∷ cs) c a = lay_all_push cs c (lay x.objects a)

-- ## Commits up to a position

abbrev pub AtMost : ℕ → Commit → Type 0
AtMost q c = c.position ≤ q

-- in rising order, none above q
abbrev pub Rising : List Commit → Type 0
Rising [] = Unit {0}
Rising (c ∷ cs) = AllByRecursion (λ x. c.position ≤ x.position) cs × Rising cs

pub up_to_keep : (q : ℕ) (c : Commit) (cs : List Commit) → c.position ≤ q → up_to q (c ∷ cs) ≡ c ∷ up_to q cs
up_to_keep q c cs l = ap (λ t. cond t (c ∷ up_to q cs) (up_to q cs)) (le-leb c.position q l)

pub up_to_strike : (q : ℕ) (c : Commit) (cs : List Commit) → q < c.position → up_to q (c ∷ cs) ≡ up_to q cs
up_to_strike q c cs l = ap (λ t. cond t (c ∷ up_to q cs) (up_to q cs)) (lt-leb c.position q l)

pub up_to_all : (q : ℕ) (cs : List Commit) → AllByRecursion (AtMost q) cs → up_to q cs ≡ cs
up_to_all q [] h = refl
up_to_all q (c ∷ cs) h = up_to_keep q c cs h.0 ∙ ap (λ xs. c ∷ xs) (up_to_all q cs h.1)

pub up_to_none : (q : ℕ) (cs : List Commit) → AllByRecursion (Above q) cs → up_to q cs ≡ []
up_to_none q [] h = refl
up_to_none q (c ∷ cs) h = up_to_strike q c cs h.0 ∙ up_to_none q cs h.1

pub up_to_push : (q : ℕ) (cs : List Commit) (c : Commit) → q < c.position → up_to q (cs ++ c ∷ []) ≡ up_to q cs
up_to_push q [] c l = up_to_strike q c [] l
up_to_push q (x ∷ cs) c l = ap (λ ys. cond (leb x.position q) (x ∷ ys) ys) (up_to_push q cs c l)

-- twice is the lower one
pub up_to_up_to : (q p : ℕ) (cs : List Commit) → q ≤ p → up_to q (up_to p cs) ≡ up_to q cs
up_to_up_to q p [] l = refl
up_to_up_to q p (c ∷ cs) l = ⊎_elim
    (λ (h : p < c.position). ap (up_to q) (up_to_strike p c cs h) ∙ up_to_up_to q p cs l ∙ sym (up_to_strike q c cs (omega arith)))
    (λ (h : c.position ≤ p). ap (up_to q) (up_to_keep p c cs h) ∙ ap (λ ys. cond (leb c.position q) (c ∷ ys) ys) (up_to_up_to q p cs l))
    (cases_lt p c.position)

pub up_to_bounded : (q : ℕ) (cs : List Commit) → AllByRecursion (AtMost q) (up_to q cs)
up_to_bounded q [] = tt
up_to_bounded q (c ∷ cs) = ⊎_elim
    (λ (h : q < c.position). subst (AllByRecursion (AtMost q)) (sym (up_to_strike q c cs h)) (up_to_bounded q cs))
    (λ (h : c.position ≤ q). subst (AllByRecursion (AtMost q)) (sym (up_to_keep q c cs h)) (h, up_to_bounded q cs))
    (cases_lt q c.position)

every_up_to : (P : Commit → Type 0) (q : ℕ) (cs : List Commit) → AllByRecursion P cs → AllByRecursion P (up_to q cs)
every_up_to P q [] h = tt
every_up_to P q (c ∷ cs) h = ⊎_elim
    (λ (l : q < c.position). subst (AllByRecursion P) (sym (up_to_strike q c cs l)) (every_up_to P q cs h.1))
    (λ (l : c.position ≤ q). subst (AllByRecursion P) (sym (up_to_keep q c cs l)) (h.0, every_up_to P q cs h.1))
    (cases_lt q c.position)

pub up_to_rising : (q : ℕ) (cs : List Commit) → Rising cs → Rising (up_to q cs)
up_to_rising q [] h = tt
up_to_rising q (c ∷ cs) h = ⊎_elim
    (λ (l : q < c.position). subst Rising (sym (up_to_strike q c cs l)) (up_to_rising q cs h.1))
    (λ (l : c.position ≤ q). subst Rising (sym (up_to_keep q c cs l)) (every_up_to (λ x. c.position ≤ x.position) q cs h.0, up_to_rising q cs h.1))
    (cases_lt q c.position)

every_push : (P : Commit → Type 0) (cs : List Commit) (c : Commit) → AllByRecursion P cs → P c → AllByRecursion P (cs ++ c ∷ [])
every_push P [] c h p = (p, tt)
every_push P (x ∷ cs) c h p = (h.0, every_push P cs c h.1 p)

pub bounded_push : (q m : ℕ) (cs : List Commit) (c : Commit) → q ≤ m → AllByRecursion (AtMost q) cs → c.position ≤ m → AllByRecursion (AtMost m) (cs ++ c ∷ [])
bounded_push q m [] c l h p = (p, tt)
bounded_push q m (x ∷ cs) c l h p = (let a = h.0 in omega arith, bounded_push q m cs c l h.1 p)

pub rising_push : (cs : List Commit) (c : Commit) → Rising cs → AllByRecursion (AtMost c.position) cs → Rising (cs ++ c ∷ [])
rising_push [] c h b = (tt, tt)
rising_push (x ∷ cs) c h b = (every_push (λ y. x.position ≤ y.position) cs c h.0 b.0, rising_push cs c h.1 b.1)

above_all : (q : ℕ) (c : Commit) (cs : List Commit) → q < c.position → AllByRecursion (λ x. c.position ≤ x.position) cs → AllByRecursion (Above q) cs
above_all q c [] l h = tt
above_all q c (x ∷ cs) l h = (let a = h.0 in omega arith, above_all q c cs l h.1)

-- those of position at most q come first
pub up_to_prefix : (q : ℕ) (cs : List Commit) → Rising cs → (struck : List Commit) × (cs ≡ up_to q cs ++ struck) × AllByRecursion (Above q) struck
up_to_prefix q [] h = ([], refl, tt)
up_to_prefix q (c ∷ cs) h = ⊎_elim
    (λ (l : q < c.position). let all : AllByRecursion (Above q) (c ∷ cs) = (l, above_all q c cs l h.0) in (c ∷ cs, ap (λ xs. xs ++ c ∷ cs) (sym (up_to_none q (c ∷ cs) all)), all))
    (λ (l : c.position ≤ q). let r = up_to_prefix q cs h.1 in (r.0, ap (λ xs. c ∷ xs) r.1 ∙ ap (λ xs. xs ++ r.0) (sym (up_to_keep q c cs l)), r.2))
    (cases_lt q c.position)
