-- Updates that are absorbed or added.
use Rattle.std.proofs.Common.{◌≡◌, ℕ, zero, suc, ◌+◌, ◌<◌, ◌≤◌, Bool, true, false, cond, eqb, List, [], ◌∷◌, ◌++◌, length, get_or, take, drop, Some, sym, refl, ap, ◌∙◌, subst, ⊎_elim, arith, length-append, length-drop, length-take}
use Rattle.std.specs.List.{AllByRecursion}
use Rattle.std.proofs.lemmas.List.{take_at, drop_at}
use Rattle.std.proofs.lemmas.Bool.{eq-eqb, ne_eqb, eqb-false, cases_eq}
use Rattle.disk.specs.Tests.{either}
use Rattle.disk.specs.Meaning.{Block}
use Rattle.card.specs.declared.Update.{Update}
use Rattle.card.specs.Layout.{latest}
use Rattle.model.specs.Operations.{among}
use Rattle.model.specs.Steps.{absorbed, added}
use Rattle.law.proofs.Latest.{latest_append, latest_here, latest_other, latest_split}
use Rattle.law.proofs.Invariant.{absent}

abbrev pub homes_of : List Update → List ℕ
homes_of [] = []
homes_of (u ∷ us) = u.home ∷ homes_of us

-- no number twice
abbrev pub Distinct : List ℕ → Type 0
Distinct [] = Unit {0}
Distinct (x ∷ xs) = (among x xs ≡ false) × Distinct xs

-- ## Conditions

pub either_false : (a b : Bool) → either a b ≡ false → (a ≡ false) × (b ≡ false)
either_false true b e = let z : ◌≡◌ {A = ℕ} 0 1 = cc in absurd (omega arith)
either_false false b e = (refl, e)

pub neither : (a b : Bool) → a ≡ false → b ≡ false → either a b ≡ false
neither a b p q = ap (λ x. either x b) p ∙ q

pub either_assoc : (a b c : Bool) → either (either a b) c ≡ either a (either b c)
either_assoc true b c = refl
either_assoc false b c = refl

either_comm : (a : Bool) → either a false ≡ either false a
either_comm true = refl
either_comm false = refl

again : (a b : Bool) → either a b ≡ either (either a b) a
again true b = refl
again false true = refl
again false false = refl

pub eqb_sym : (a b : ℕ) → eqb a b ≡ eqb b a
eqb_sym a b = ⊎_elim (λ e. eq-eqb a b e ∙ sym (eq-eqb b a (sym e))) (λ n. ne_eqb a b n ∙ sym (ne_eqb b a (λ e. n (sym e)))) (cases_eq a b)

-- ## Every update

pub every_at : (P : Update → Type 0) (us : List Update) → AllByRecursion P us → (k : ℕ) → k < length us → P (get_or us k absent)
every_at P [] h k l = absurd (omega arith)
every_at P (u ∷ us) h zero l = h.0
every_at P (u ∷ us) h (suc k) l = every_at P us h.1 k (omega arith)

pub at_every : (P : Update → Type 0) (us : List Update) → ((k : ℕ) → k < length us → P (get_or us k absent)) → AllByRecursion P us
at_every P [] h = tt
at_every P (u ∷ us) h = (h 0 (omega arith), at_every P us (λ k l. h (suc k) (omega arith)))

pub every_append : (P : Update → Type 0) (us vs : List Update) → AllByRecursion P us → AllByRecursion P vs → AllByRecursion P (us ++ vs)
every_append P [] vs h g = g
every_append P (u ∷ us) vs h g = (h.0, every_append P us vs h.1 g)

pub every_take : (P : Update → Type 0) (n : ℕ) (us : List Update) → AllByRecursion P us → AllByRecursion P (take n us)
every_take P zero us h = tt
every_take P (suc n) [] h = tt
every_take P (suc n) (u ∷ us) h = (h.0, every_take P n us h.1)

pub every_drop : (P : Update → Type 0) (n : ℕ) (us : List Update) → AllByRecursion P us → AllByRecursion P (drop n us)
every_drop P zero us h = h
every_drop P (suc n) [] h = tt
every_drop P (suc n) (u ∷ us) h = every_drop P n us h.1

-- ## Absorbed

-- updates of other homes leave a block
pub latest_none : (us : List Update) (b : ℕ) (x : Block) → among b (homes_of us) ≡ false → latest us b x ≡ x
latest_none [] b x e = refl
latest_none (u ∷ us) b x e =
    let f = either_false (eqb b u.home) (among b (homes_of us)) e in
    ap (latest us b) (latest_other u b x (λ s. eqb-false b u.home f.0 (sym s))) ∙ latest_none us b x f.1

absorbed_hit : (u v : Update) (vs : List Update) → v.home ≡ u.home → absorbed u (v ∷ vs) ≡ u ∷ vs
absorbed_hit u v vs e = ap (λ t. cond t (u ∷ vs) (v ∷ absorbed u vs)) (eq-eqb v.home u.home e)

absorbed_miss : (u v : Update) (vs : List Update) → (v.home ≡ u.home → ⊥) → absorbed u (v ∷ vs) ≡ v ∷ absorbed u vs
absorbed_miss u v vs n = ap (λ t. cond t (u ∷ vs) (v ∷ absorbed u vs)) (ne_eqb v.home u.home n)

-- one update on top
abbrev pub topped : Update → ℕ → Block → Block
topped u b x = cond (eqb u.home b) (Some u.bytes) x

pub absorbed_latest : (u : Update) (vs : List Update) (b : ℕ) (x : Block) → Distinct (homes_of vs) → latest (absorbed u vs) b x ≡ topped u b (latest vs b x)
absorbed_latest u [] b x h = refl
absorbed_latest u (v ∷ vs) b x h = ⊎_elim
    (λ hit. ap (λ (ws : List Update). latest ws b x) (absorbed_hit u v vs hit) ∙
    ⊎_elim
    (λ (same : u.home ≡ b). ap (latest vs b) (latest_here u b x same) ∙ latest_none vs b (Some u.bytes) (subst (λ (n : ℕ). among n (homes_of vs) ≡ false) (hit ∙ same) h.0) ∙ sym (latest_here u b _ same))
    (λ other. ap (latest vs b) (latest_other u b x other) ∙ sym (latest_other u b (latest (v ∷ vs) b x) other ∙ ap (latest vs b) (latest_other v b x (λ e. other (sym hit ∙ e)))))
    (cases_eq u.home b))
    (λ miss. ap (λ (ws : List Update). latest ws b x) (absorbed_miss u v vs miss) ∙ absorbed_latest u vs b (topped v b x) h.1)
    (cases_eq v.home u.home)

pub absorbed_among : (u : Update) (vs : List Update) (b : ℕ) → among b (homes_of (absorbed u vs)) ≡ either (among b (homes_of vs)) (eqb b u.home)
absorbed_among u [] b = either_comm (eqb b u.home)
absorbed_among u (v ∷ vs) b = ⊎_elim
    (λ hit. ap (λ (ws : List Update). among b (homes_of ws)) (absorbed_hit u v vs hit) ∙ again (eqb b u.home) (among b (homes_of vs)) ∙ ap (λ n. either (either (eqb b n) (among b (homes_of vs))) (eqb b u.home)) (sym hit))
    (λ miss. ap (λ (ws : List Update). among b (homes_of ws)) (absorbed_miss u v vs miss) ∙ ap (either (eqb b v.home)) (absorbed_among u vs b) ∙ sym (either_assoc (eqb b v.home) (among b (homes_of vs)) (eqb b u.home)))
    (cases_eq v.home u.home)

pub absorbed_distinct : (u : Update) (vs : List Update) → Distinct (homes_of vs) → Distinct (homes_of (absorbed u vs))
absorbed_distinct u [] h = (refl, tt)
absorbed_distinct u (v ∷ vs) h = ⊎_elim
    (λ hit. subst (λ (ws : List Update). Distinct (homes_of ws)) (sym (absorbed_hit u v vs hit)) (subst (λ (n : ℕ). among n (homes_of vs) ≡ false) hit h.0, h.1))
    (λ miss. subst (λ (ws : List Update). Distinct (homes_of ws)) (sym (absorbed_miss u v vs miss))
    (absorbed_among u vs v.home ∙ neither (among v.home (homes_of vs)) (eqb v.home u.home) h.0 (ne_eqb v.home u.home miss), absorbed_distinct u vs h.1))
    (cases_eq v.home u.home)

-- a home that is there takes no place more
pub absorbed_length : (u : Update) (vs : List Update) → length (absorbed u vs) ≡ length vs + cond (among u.home (homes_of vs)) 0 1
absorbed_length u [] = refl
absorbed_length u (v ∷ vs) = ⊎_elim
    (λ hit. ap length (absorbed_hit u v vs hit) ∙ (let e : ◌≡◌ {A = ℕ} (cond (among u.home (homes_of (v ∷ vs))) 0 1) 0 = ap (λ t. cond (either t (among u.home (homes_of vs))) 0 1) (eq-eqb u.home v.home (sym hit)) in omega arith))
    (λ miss. ap length (absorbed_miss u v vs miss) ∙ (let i = absorbed_length u vs in let e : ◌≡◌ {A = ℕ} (cond (among u.home (homes_of (v ∷ vs))) 0 1) (cond (among u.home (homes_of vs)) 0 1) = ap (λ t. cond (either t (among u.home (homes_of vs))) 0 1) (ne_eqb u.home v.home (λ s. miss (sym s))) in omega arith))
    (cases_eq v.home u.home)

pub absorbed_every : (P : Update → Type 0) (u : Update) (vs : List Update) → P u → AllByRecursion P vs → AllByRecursion P (absorbed u vs)
absorbed_every P u [] p h = (p, tt)
absorbed_every P u (v ∷ vs) p h = ⊎_elim
    (λ hit. subst (AllByRecursion P) (sym (absorbed_hit u v vs hit)) (p, h.1))
    (λ miss. subst (AllByRecursion P) (sym (absorbed_miss u v vs miss)) (h.0, absorbed_every P u vs p h.1))
    (cases_eq v.home u.home)

-- ## Added

module _ (settled : ℕ) (u : Update) (us : List Update) (fits : settled ≤ length us) where
  front : length (take settled us) ≡ settled
  front = length-take settled us ∙ omega arith

  pub added_take : take settled (added settled u us) ≡ take settled us
  added_take = take_at (take settled us) (absorbed u (drop settled us)) settled front

  pub added_drop : drop settled (added settled u us) ≡ absorbed u (drop settled us)
  added_drop = drop_at (take settled us) (absorbed u (drop settled us)) settled front

  pub added_length : length (added settled u us) ≡ length us + cond (among u.home (homes_of (drop settled us))) 0 1
  added_length = length-append (take settled us) (absorbed u (drop settled us)) ∙ (let a = absorbed_length u (drop settled us) in let b = length-drop settled us in let c = front in omega arith)

  pub added_latest : (b : ℕ) (x : Block) → Distinct (homes_of (drop settled us)) → latest (added settled u us) b x ≡ topped u b (latest us b x)
  added_latest b x h =
      latest_append (take settled us) (absorbed u (drop settled us)) b x ∙ absorbed_latest u (drop settled us) b (latest (take settled us) b x) h ∙
      ap (topped u b) (sym (latest_split settled us b x))

  pub added_every : (P : Update → Type 0) → P u → AllByRecursion P us → AllByRecursion P (added settled u us)
  added_every P p h = every_append P (take settled us) (absorbed u (drop settled us)) (every_take P settled us h) (absorbed_every P u (drop settled us) p (every_drop P settled us h))
