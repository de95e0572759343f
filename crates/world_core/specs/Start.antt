-- What a life begins with, and who starts later in it.
use Rattle.std.specs.Prelude.{◌≡◌, ℕ, List, [], ◌++◌, map}
use Rattle.sig_core.specs.declared.member.Member.{Member}
use Rattle.sig_core.specs.declared.view.Shape.{Shape}
use Rattle.frag_map.specs.Layout.{members}
use Rattle.world_core.specs.Late.{Late}

-- the shape of the cluster, the first epoch of the life, the epoch that it starts from, which is below the first one,
-- the rows that it begins with, which are of the epoch that it starts from, and its later starts, in the order in which
-- they are made
pub record Start : Type 0 where
  pub shape : Shape
  pub epoch : ℕ
  pub start_epoch : ℕ
  pub rows : List (List ℕ × List ℕ)
  pub late : List Late

-- nobody starts later
abbrev pub NobodyStarts : Start → Type 0
NobodyStarts start = start.late ≡ []

-- a fresh world is in its first epoch, and has no rows
abbrev pub fresh : Shape → Start
fresh shape = record { shape = shape; epoch = 1; start_epoch = 0; rows = []; late = [] }

-- the members of the later starts
abbrev pub late_members : Start → List Member
late_members start = map (λ (late : Late). late.member) start.late

-- the members that a life has, in the order in which they are made: those of the nodes that begin it, then the others
abbrev pub made : Start → List Member
made start = members start.shape.nodes ++ late_members start
