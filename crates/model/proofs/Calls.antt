-- The outcomes of format and opening, from what the log answers.
use Rattle.std.proofs.Common.{◌≡◌, ℕ, true, false, [], ◌∷◌, is_some, Some, None, Ok, Err, Option, sym, refl, ap, ◌∙◌, arith}
use Rattle.std.specs.Option.{option_map}
use Rattle.disk.specs.Tests.{first_of, unless}
use Rattle.disk.specs.Meaning.{Blocks}
use Rattle.card.specs.Layout.{end_on}
use Rattle.model.specs.declared.LogFault.{LogFault}
use Rattle.model.specs.declared.Fault.{Fault}
use Rattle.model.specs.declared.Fault.TheVariants.{Opened, Log as InLog}
use Rattle.model.specs.Outcomes.{Outcome, refused_by, decided, answering, value_unless, passed, after_writes, writes_after}
use Rattle.model.specs.Log as model
use Rattle.model.specs.Log.{card_tests, opening_tests, log_on, formatted}
use Rattle.model.specs.Journal.{View, opened_with, format, open_tests, opening}
use Rattle.model.proofs.Tests.{first_mapped, value_ok, value_err}

pub mapped_none : (o : Option LogFault) → option_map InLog o ≡ None → o ≡ None
mapped_none None e = refl
mapped_none (Some f) e = let z : ◌≡◌ {A = ℕ} 0 1 = cc in absurd (omega arith)

-- ## On an open journal

pub format_open : (v : View) (d : Blocks) → is_some v ≡ true → format v d ≡ refused_by Opened [] v d
format_open None d e = let z : ◌≡◌ {A = ℕ} 0 1 = cc in absurd (omega arith)
format_open (Some l) d e = refl

pub opening_open : (v : View) (d : Blocks) → is_some v ≡ true → opening v d ≡ refused_by Opened [] v d
opening_open None d e = let z : ◌≡◌ {A = ℕ} 0 1 = cc in absurd (omega arith)
opening_open (Some l) d e = refl

-- ## On a shut journal

abbrev formats : View → Blocks → Outcome View
formats v d = record { answer = Ok 0; wrote = 0 ∷ 1 ∷ []; buffer = []; state = v; disk = formatted d }

abbrev pub opens : Blocks → Outcome View
opens d = answering (end_on d) [] (Some (opened_with (log_on d))) d

format_shut : (v : View) (d : Blocks) → is_some v ≡ false → format v d ≡ decided (option_map InLog (first_of (card_tests d))) [] v d (formats v d)
format_shut None d e = ap (λ o. decided o [] None d (formats None d)) (first_mapped InLog (card_tests d))
format_shut (Some l) d e = let z : ◌≡◌ {A = ℕ} 0 1 = cc in absurd (omega arith)

opening_shut : (v : View) (d : Blocks) → is_some v ≡ false → opening v d ≡ decided (option_map InLog (first_of (opening_tests d))) [] v d (opens d)
opening_shut None d e = ap (λ o. decided o [] None d (opens d)) (first_mapped InLog (opening_tests d))
opening_shut (Some l) d e = let z : ◌≡◌ {A = ℕ} 0 1 = cc in absurd (omega arith)

module _ (v : View) (d : Blocks) (is-shut : is_some v ≡ false) where
  told_state : (o : Option LogFault) → v ≡ (decided (option_map InLog o) [] v d (formats v d)).state
  told_state None = refl
  told_state (Some f) = refl

  told_disk : (o : Option LogFault) → unless o (formatted d) d ≡ (decided (option_map InLog o) [] v d (formats v d)).disk
  told_disk None = refl
  told_disk (Some f) = refl

  told_writes : (n : ℕ) (o : Option LogFault) → unless o (after_writes 2 n) n ≡ writes_after (decided (option_map InLog o) [] v d (formats v d)) n
  told_writes n None = refl
  told_writes n (Some f) = refl

  abbrev refusal : Option LogFault
  refusal = first_of (card_tests d)

  pub format_state : v ≡ (format v d).state
  format_state = told_state refusal ∙ sym (ap (λ o. o.state) (format_shut v d is-shut))

  pub format_disk : (x : Blocks) → x ≡ unless refusal (formatted d) d → x ≡ (format v d).disk
  format_disk x e = e ∙ told_disk refusal ∙ sym (ap (λ o. o.disk) (format_shut v d is-shut))

  pub format_writes : (m n : ℕ) → m ≡ unless refusal (after_writes 2 n) n → m ≡ writes_after (format v d) n
  format_writes m n e = e ∙ told_writes n refusal ∙ sym (ap (λ o. writes_after o n) (format_shut v d is-shut))

  pub format_ok : Ok tt ≡ passed refusal → Ok 0 ≡ (format v d).answer
  format_ok e = sym (ap (λ o. o.answer) (format_shut v d is-shut) ∙ ap (λ o. (decided (option_map InLog o) [] v d (formats v d)).answer) (value_ok refusal tt tt e).0)

  pub format_err : (f : LogFault) → Err f ≡ passed refusal → Err (InLog f) ≡ (format v d).answer
  format_err f e = sym (ap (λ o. o.answer) (format_shut v d is-shut) ∙ ap (λ o. (decided (option_map InLog o) [] v d (formats v d)).answer) (value_err refusal tt f e))

  pub opening_err : (f : LogFault) → Err f ≡ value_unless (first_of (opening_tests d)) (log_on d) → opening v d ≡ refused_by (InLog f) [] v d
  opening_err f e = opening_shut v d is-shut ∙ ap (λ o. decided (option_map InLog o) [] v d (opens d)) (value_err (first_of (opening_tests d)) (log_on d) f e)

  pub opening_ok : (l : model.Log) → Ok l ≡ value_unless (first_of (opening_tests d)) (log_on d) → opening v d ≡ answering l.end [] (Some (opened_with l)) d
  opening_ok l e =
      let o = value_ok (first_of (opening_tests d)) (log_on d) l e in
      opening_shut v d is-shut ∙ ap (λ x. decided (option_map InLog x) [] v d (opens d)) o.0 ∙
      sym (ap (λ (x : model.Log). answering x.end [] (Some (opened_with x)) d) o.1)

-- an opening that was granted
granted_none : (o : Option Fault) (v : View) (d : Blocks) (e : ℕ) → (decided o [] v d (opens d)).answer ≡ Ok e → o ≡ None
granted_none None v d e p = refl
granted_none (Some f) v d e p = let z : ◌≡◌ {A = ℕ} 0 1 = cc in absurd (omega arith)

pub opening_granted : (d : Blocks) (e : ℕ) → (opening None d).answer ≡ Ok e → (first_of (opening_tests d) ≡ None) × (opening None d ≡ opens d)
opening_granted d e p =
    let o = granted_none (first_of (open_tests None d)) None d e p in
    (mapped_none (first_of (opening_tests d)) (sym (first_mapped InLog (opening_tests d)) ∙ o), ap (λ x. decided x [] None d (opens d)) o)
