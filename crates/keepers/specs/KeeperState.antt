-- The model of a keeper in memory.
use Rattle.std.specs.Prelude.{ℕ, zero, suc, List, Option, refl, ◌≡◌}
use Rattle.std.specs.Coded.{Coded, code_by, coded×, coded_ℕ, coded_list, coded_option}
use Rattle.std.specs.FinMap as finmap
use Rattle.keepers.specs.Claims.{Images}
use Rattle.keepers.specs.declared.memory_keeper.Op.{Op}
use Rattle.keepers.specs.declared.memory_keeper.Op.TheVariants.{Put, Get, Free}

-- The images by slot, the number of slots, and the room in bytes of each slot, if any. Also the failing calls, how
-- often each call was made, and the count of faults.
pub record KeeperState : Type 0 where
  pub images : Images
  pub slots : ℕ
  pub room : Option ℕ
  pub failing : List (Op × ℕ)
  pub puts : ℕ
  pub gets : ℕ
  pub frees : ℕ
  pub faults : ℕ

-- a kind of call is stored as a number
abbrev pub op_number : Op → ℕ
op_number Put = 0
op_number Get = 1
op_number Free = 2

abbrev pub numbered_op : ℕ → Op
numbered_op zero = Put
numbered_op (suc zero) = Get
numbered_op (suc (suc n)) = Free

pub numbered : (op : Op) → numbered_op (op_number op) ≡ op
numbered Put = refl
numbered Get = refl
numbered Free = refl

abbrev pub op_code : Coded Op
op_code = code_by ℕ coded_ℕ op_number numbered_op numbered

abbrev pub keeper_state_code : Coded KeeperState
keeper_state_code =
    code_by (Images × (ℕ × (Option ℕ × (List (Op × ℕ) × (ℕ × (ℕ × (ℕ × ℕ)))))))
    (coded× (finmap.code coded_ℕ (coded_list coded_ℕ))
    (coded× coded_ℕ
    (coded× (coded_option coded_ℕ) (coded× (coded_list (coded× op_code coded_ℕ)) (coded× coded_ℕ (coded× coded_ℕ (coded× coded_ℕ coded_ℕ)))))))
    (λ s. (s.images, (s.slots, (s.room, (s.failing, (s.puts, (s.gets, (s.frees, s.faults))))))))
    (λ p. record {
      images = p.0;
      slots = p.1.0;
      room = p.1.1.0;
      failing = p.1.1.1.0;
      puts = p.1.1.1.1.0;
      gets = p.1.1.1.1.1.0;
      frees = p.1.1.1.1.1.1.0;
      faults = p.1.1.1.1.1.1.1;
    })
    (λ _. refl)
