-- What a block holds after updates in order.
use Rattle.std.proofs.Common.{◌≡◌, ℕ, ◌+◌, ◌<◌, Bool, true, false, cond, eqb, ◌⊎◌, List, [], ◌∷◌, ◌++◌, length, get_or, take, drop, is_some, Some, sym, refl, ap, ◌∙◌, inl, inr, ⊎_elim}
use Rattle.std.proofs.lemmas.List.{take-append-drop, take_more, drop_more}
use Rattle.std.proofs.lemmas.Bool.{eq-eqb, ne_eqb, cases_eq}
use Rattle.disk.specs.Meaning.{Block}
use Rattle.card.specs.declared.Update.{Update}
use Rattle.card.specs.Layout.{latest}

pub latest_append : (us vs : List Update) (b : ℕ) (x : Block) → latest (us ++ vs) b x ≡ latest vs b (latest us b x)
latest_append [] vs b x = refl
latest_append (u ∷ us) vs b x = latest_append us vs b (cond (eqb u.home b) (Some u.bytes) x)

-- one update
pub latest_here : (u : Update) (b : ℕ) (x : Block) → u.home ≡ b → latest (u ∷ []) b x ≡ Some u.bytes
latest_here u b x e = ap (λ t. cond t (Some u.bytes) x) (eq-eqb u.home b e)

pub latest_other : (u : Update) (b : ℕ) (x : Block) → (u.home ≡ b → ⊥) → latest (u ∷ []) b x ≡ x
latest_other u b x n = ap (λ t. cond t (Some u.bytes) x) (ne_eqb u.home b n)

-- either the updates have the block as a home, and what it held does not matter, or they leave it
pub latest_cases : (us : List Update) (b : ℕ) → ((x y : Block) → latest us b x ≡ latest us b y) ⊎ ((x : Block) → latest us b x ≡ x)
latest_cases [] b = inr (λ x. refl)
latest_cases (u ∷ us) b = ⊎_elim
    (λ any. inl (λ x y. any _ _))
    (λ keep. ⊎_elim
    (λ here. inl (λ x y. ap (latest us b) (latest_here u b x here ∙ sym (latest_here u b y here))))
    (λ other. inr (λ x. ap (latest us b) (latest_other u b x other) ∙ keep x))
    (cases_eq u.home b))
    (latest_cases us b)

-- updates of which one has this home: what the block held does not matter
pub latest_any : (us vs : List Update) (u : Update) (b : ℕ) (x y : Block) → u.home ≡ b → latest (us ++ u ∷ vs) b x ≡ latest (us ++ u ∷ vs) b y
latest_any us vs u b x y e =
    latest_append us (u ∷ vs) b x ∙
    ap (latest vs b) (latest_here u b (latest us b x) e ∙ sym (latest_here u b (latest us b y) e)) ∙
    sym (latest_append us (u ∷ vs) b y)

-- the updates in two parts
pub latest_split : (n : ℕ) (us : List Update) (b : ℕ) (x : Block) → latest us b x ≡ latest (drop n us) b (latest (take n us) b x)
latest_split n us b x = ap (λ (vs : List Update). latest vs b x) (sym (take-append-drop n us)) ∙ latest_append (take n us) (drop n us) b x

-- one update more of the first n
pub latest_more : (n : ℕ) (us : List Update) (u : Update) (b : ℕ) (x : Block) → n < length us → latest (take (n + 1) us) b x ≡ latest (get_or us n u ∷ []) b (latest (take n us) b x)
latest_more n us u b x l = ap (λ (vs : List Update). latest vs b x) (take_more us n u l) ∙ latest_append (take n us) (get_or us n u ∷ []) b x

either_some : (t : Bool) (bs : List ℕ) (x : Block) → is_some x ≡ true → is_some (cond t (Some bs) x) ≡ true
either_some true bs x e = refl
either_some false bs x e = e

-- a block that has bytes goes on having some
pub latest_live : (us : List Update) (b : ℕ) (x : Block) → is_some x ≡ true → is_some (latest us b x) ≡ true
latest_live [] b x e = e
latest_live (u ∷ us) b x e = latest_live us b (cond (eqb u.home b) (Some u.bytes) x) (either_some (eqb u.home b) u.bytes x e)

-- the same, by where that update stands
pub latest_at : (us : List Update) (k b : ℕ) (x y : Block) → k < length us → (get_or us k (record { home = 0; bytes = [] })).home ≡ b → latest us b x ≡ latest us b y
latest_at us k b x y l e =
    let u = get_or us k (record { home = 0; bytes = [] }) in
    let z = sym (take-append-drop k us) ∙ ap (λ (vs : List Update). take k us ++ vs) (drop_more us k (record { home = 0; bytes = [] }) l) in
    ap (λ (vs : List Update). latest vs b x) z ∙ latest_any (take k us) (drop (k + 1) us) u b x y e ∙ sym (ap (λ (vs : List Update). latest vs b y) z)
