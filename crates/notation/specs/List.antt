-- A list in memory that is lent.
use Rattle.std.specs.Prelude.{ℕ, refl}
use Rattle.std.specs.Prelude.{List as Seq}
use Rattle.std.specs.Coded.{Coded, code_by, coded_list, coded_ℕ, coded×}

-- what a list is in contracts: its elements, in their order, and how many it has room for
pub record Listed (T : Type 0) : Type 0 where
  pub items : Seq T
  pub room : ℕ

-- such a list by its elements and its room, which the kit asks of a value of contracts
abbrev pub listed_code : {T : Type 0} → Coded T → Coded (Listed T)
listed_code {T} code =
    code_by (Seq T × ℕ) (coded× (coded_list code) coded_ℕ) (λ v. (v.items, v.room)) (λ v. record { items = v.0; room = v.1 }) (λ _. refl)
