-- Which logbook an id or a name leads to, test by test.
use Rattle.std.proofs.Common.{◌≡◌, ℕ, ◌-◌, Bool, true, false, not, List, sym, ◌∙◌, ap, Option, Some, None, if◌then◌else◌}
use Rattle.std.specs.Prelude.{◌==◌, slice_get, slice_index_or}
use Rattle.apex_types.specs.Rows.{Rows}
use Rattle.apex_types.specs.declared.codes.ReturnCode.TheVariants.{InvalidParam, InvalidConfig}
use Rattle.apex_types.specs.declared.rows.LogbookRow.{LogbookRow}
use Rattle.apex_model.specs.Logbooks.{LogbookSystem, LogbookOutcome, given_or, book_number, on_book, on_named_book}
use Rattle.apex_model.specs.Outcomes.{refuse_with, refuse_if_with}
use Rattle.apex_model.specs.Tables.{logbooks_of}
use Rattle.logbook_services.specs.Places.{numbered_in, named_in}
use Rattle.logbook_services.specs.Steps.{LeadsTo, LeadsToNone, IsNamed, IsNamedNowhere}

-- what is left after each test
abbrev with_row : Rows → (ℕ → LogbookRow → LogbookOutcome) → ℕ → LogbookOutcome
with_row table rest k = given_or (slice_get table.logbooks k) (refuse_with InvalidParam) (rest k)

abbrev with_made : Rows → List Bool → (ℕ → LogbookRow → LogbookOutcome) → ℕ → LogbookOutcome
with_made table made rest k = refuse_if_with (not (slice_index_or made k false)) InvalidParam (with_row table rest k)

module _ (table : Rows) (made : List Bool) (p id : ℕ) where
  number-is : (o : Option ℕ) → (id == 0) ≡ false → o ≡ numbered_in table.logbooks p (id - 1) → book_number table p id ≡ o
  number-is o some e = ap (λ (b : Bool). if b then None else slice_get (logbooks_of table p) (id - 1)) some ∙ sym e

  by-number : (system : LogbookSystem) → made ≡ system.created → (rest : ℕ → LogbookRow → LogbookOutcome) → (o : Option ℕ) → book_number table p id ≡ o
      → on_book table system p id rest ≡ given_or o (refuse_with InvalidParam) (with_made table made rest)
  by-number system is rest o e =
      ap (λ (o : Option ℕ). given_or o (refuse_with InvalidParam) (with_made table system.created rest)) e
      ∙ ap (λ (m : List Bool). given_or o (refuse_with InvalidParam) (with_made table m rest)) (sym is)

  pub none-zero : (id == 0) ≡ true → LeadsToNone table made p id
  none-zero e system is rest = by-number system is rest None (ap (λ (b : Bool). if b then None else slice_get (logbooks_of table p) (id - 1)) e)

  pub none-number : (id == 0) ≡ false → None ≡ numbered_in table.logbooks p (id - 1) → LeadsToNone table made p id
  none-number some e system is rest = by-number system is rest None (number-is None some e)

  module _ (k : ℕ) (some : (id == 0) ≡ false) (number : Some k ≡ numbered_in table.logbooks p (id - 1)) where
    by-made : (system : LogbookSystem) → made ≡ system.created → (rest : ℕ → LogbookRow → LogbookOutcome) → (b : Bool) → slice_index_or made k false ≡ b
        → on_book table system p id rest ≡ refuse_if_with (not b) InvalidParam (with_row table rest k)
    by-made system is rest b e = by-number system is rest (Some k) (number-is (Some k) some number) ∙ ap (λ (b : Bool). refuse_if_with (not b) InvalidParam (with_row table rest k)) e

    pub none-made : slice_index_or made k false ≡ false → LeadsToNone table made p id
    none-made e system is rest = by-made system is rest false e

    pub none-row : slice_index_or made k false ≡ true → slice_get table.logbooks k ≡ None → LeadsToNone table made p id
    none-row e row system is rest = by-made system is rest true e ∙ ap (λ (o : Option LogbookRow). given_or o (refuse_with InvalidParam) (rest k)) row

    pub leads : (row : LogbookRow) → slice_index_or made k false ≡ true → slice_get table.logbooks k ≡ Some row → LeadsTo table made p id k row
    leads row e at = record {
      row_is = at;
      goes_on = λ system is rest. by-made system is rest true e ∙ ap (λ (o : Option LogbookRow). given_or o (refuse_with InvalidParam) (rest k)) at;
    }

abbrev with_place : Rows → ℕ → (ℕ → ℕ → LogbookOutcome) → ℕ → LogbookOutcome
with_place table p rest place = given_or (slice_get (logbooks_of table p) place) (refuse_with InvalidConfig) (rest place)

module _ (table : Rows) (p : ℕ) (name : List ℕ) where
  by-name : (rest : ℕ → ℕ → LogbookOutcome) → (o : Option ℕ) → o ≡ named_in table.logbooks p name → on_named_book table p name rest ≡ given_or o (refuse_with InvalidConfig) (with_place table p rest)
  by-name rest o e = ap (λ (o : Option ℕ). given_or o (refuse_with InvalidConfig) (with_place table p rest)) (sym e)

  by-place : (rest : ℕ → ℕ → LogbookOutcome) → (place : ℕ) → Some place ≡ named_in table.logbooks p name → (o : Option ℕ) → o ≡ numbered_in table.logbooks p place
      → on_named_book table p name rest ≡ given_or o (refuse_with InvalidConfig) (rest place)
  by-place rest place named o e = by-name rest (Some place) named ∙ ap (λ (o : Option ℕ). given_or o (refuse_with InvalidConfig) (rest place)) (sym e)

  pub named-none : None ≡ named_in table.logbooks p name → IsNamedNowhere table p name
  named-none e rest = by-name rest None e

  pub named-nowhere : (place : ℕ) → Some place ≡ named_in table.logbooks p name → None ≡ numbered_in table.logbooks p place → IsNamedNowhere table p name
  named-nowhere place named e rest = by-place rest place named None e

  pub named-at : (place k : ℕ) → Some place ≡ named_in table.logbooks p name → Some k ≡ numbered_in table.logbooks p place → IsNamed table p name place k
  named-at place k named e rest = by-place rest place named (Some k) e
