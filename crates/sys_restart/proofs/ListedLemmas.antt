-- All nodes are listed by the mask of all.
use Rattle.std.proofs.Common.{◌≡◌, ℕ, zero, suc, ◌-◌, ◌^◌, ◌≤◌, true, refl, arith}
use Rattle.sys_restart.specs.Groups.{is_listed}

pub listed_all : (nodes node : ℕ) → 1 ≤ node → node ≤ nodes → nodes ≤ 8 → is_listed (2 ^ nodes - 1) node ≡ true
listed_all nodes zero some within few = absurd (omega (arith, some))
listed_all zero (suc more) some within few = absurd (omega (arith, within))
listed_all (suc zero) (suc zero) some within few = refl
listed_all (suc zero) (suc (suc more)) some within few = absurd (omega (arith, within))
listed_all (suc (suc zero)) (suc zero) some within few = refl
listed_all (suc (suc zero)) (suc (suc zero)) some within few = refl
listed_all (suc (suc zero)) (suc (suc (suc more))) some within few = absurd (omega (arith, within))
listed_all (suc (suc (suc zero))) (suc zero) some within few = refl
listed_all (suc (suc (suc zero))) (suc (suc zero)) some within few = refl
listed_all (suc (suc (suc zero))) (suc (suc (suc zero))) some within few = refl
listed_all (suc (suc (suc zero))) (suc (suc (suc (suc more)))) some within few = absurd (omega (arith, within))
listed_all (suc (suc (suc (suc zero)))) (suc zero) some within few = refl
listed_all (suc (suc (suc (suc zero)))) (suc (suc zero)) some within few = refl
listed_all (suc (suc (suc (suc zero)))) (suc (suc (suc zero))) some within few = refl
listed_all (suc (suc (suc (suc zero)))) (suc (suc (suc (suc zero)))) some within few = refl
listed_all (suc (suc (suc (suc zero)))) (suc (suc (suc (suc (suc more))))) some within few =
    absurd (omega (arith, within))
listed_all (suc (suc (suc (suc (suc zero))))) (suc zero) some within few = refl
listed_all (suc (suc (suc (suc (suc zero))))) (suc (suc zero)) some within few = refl
listed_all (suc (suc (suc (suc (suc zero))))) (suc (suc (suc zero))) some within few = refl
listed_all (suc (suc (suc (suc (suc zero))))) (suc (suc (suc (suc zero)))) some within few = refl
listed_all (suc (suc (suc (suc (suc zero))))) (suc (suc (suc (suc (suc zero))))) some within few = refl
listed_all (suc (suc (suc (suc (suc zero))))) (suc (suc (suc (suc (suc (suc more)))))) some within few =
    absurd (omega (arith, within))
listed_all (suc (suc (suc (suc (suc (suc zero)))))) (suc zero) some within few = refl
listed_all (suc (suc (suc (suc (suc (suc zero)))))) (suc (suc zero)) some within few = refl
listed_all (suc (suc (suc (suc (suc (suc zero)))))) (suc (suc (suc zero))) some within few = refl
listed_all (suc (suc (suc (suc (suc (suc zero)))))) (suc (suc (suc (suc zero)))) some within few = refl
listed_all (suc (suc (suc (suc (suc (suc zero)))))) (suc (suc (suc (suc (suc zero))))) some within few = refl
listed_all (suc (suc (suc (suc (suc (suc zero)))))) (suc (suc (suc (suc (suc (suc zero)))))) some within few = refl
listed_all (suc (suc (suc (suc (suc (suc zero)))))) (suc (suc (suc (suc (suc (suc (suc more))))))) some within few =
    absurd (omega (arith, within))
listed_all (suc (suc (suc (suc (suc (suc (suc zero))))))) (suc zero) some within few = refl
listed_all (suc (suc (suc (suc (suc (suc (suc zero))))))) (suc (suc zero)) some within few = refl
listed_all (suc (suc (suc (suc (suc (suc (suc zero))))))) (suc (suc (suc zero))) some within few = refl
listed_all (suc (suc (suc (suc (suc (suc (suc zero))))))) (suc (suc (suc (suc zero)))) some within few = refl
listed_all (suc (suc (suc (suc (suc (suc (suc zero))))))) (suc (suc (suc (suc (suc zero))))) some within few = refl
listed_all (suc (suc (suc (suc (suc (suc (suc zero))))))) (suc (suc (suc (suc (suc (suc zero)))))) some within few =
    refl
listed_all (suc (suc (suc (suc (suc (suc (suc zero))))))) (suc (suc (suc (suc (suc (suc (suc zero))))))) some within few
    = refl
listed_all (suc (suc (suc (suc (suc (suc (suc zero))))))) (suc (suc (suc (suc (suc (suc (suc (suc more)))))))) some
    within few = absurd (omega (arith, within))
listed_all (suc (suc (suc (suc (suc (suc (suc (suc zero)))))))) (suc zero) some within few = refl
listed_all (suc (suc (suc (suc (suc (suc (suc (suc zero)))))))) (suc (suc zero)) some within few = refl
listed_all (suc (suc (suc (suc (suc (suc (suc (suc zero)))))))) (suc (suc (suc zero))) some within few = refl
listed_all (suc (suc (suc (suc (suc (suc (suc (suc zero)))))))) (suc (suc (suc (suc zero)))) some within few = refl
listed_all (suc (suc (suc (suc (suc (suc (suc (suc zero)))))))) (suc (suc (suc (suc (suc zero))))) some within few =
    refl
listed_all (suc (suc (suc (suc (suc (suc (suc (suc zero)))))))) (suc (suc (suc (suc (suc (suc zero)))))) some within few
    = refl
listed_all (suc (suc (suc (suc (suc (suc (suc (suc zero)))))))) (suc (suc (suc (suc (suc (suc (suc zero))))))) some
    within few = refl
listed_all (suc (suc (suc (suc (suc (suc (suc (suc zero)))))))) (suc (suc (suc (suc (suc (suc (suc (suc zero))))))))
    some within few = refl
listed_all (suc (suc (suc (suc (suc (suc (suc (suc zero))))))))
    (suc (suc (suc (suc (suc (suc (suc (suc (suc more))))))))) some within few = absurd (omega (arith, within))
listed_all (suc (suc (suc (suc (suc (suc (suc (suc (suc nodes))))))))) (suc node) some within few =
    absurd (omega (arith, few))
