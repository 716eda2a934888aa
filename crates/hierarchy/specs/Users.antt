-- Where the records of users stand among bytes: in the blocks of an image, each of which holds some and leaves a gap, or one right after the other. The
-- rule of users' sets of groups over them.
use Rattle.std.specs.Prelude.{ℕ, ◌+◌, ◌*◌, ◌/◌, ◌^◌, ◌≤◌, ◌<◌, ◌≡◌, Bool, List, length}
use Rattle.fields.specs.Bytes.{part}
use Rattle.fields.specs.Scan.{first_bad}
use Rattle.header.specs.declared.edition.Edition.{Edition}
use Rattle.header.specs.declared.profile.Profile.{Profile}
use Rattle.header.specs.declared.layout.Kind.TheVariants.{User}
use Rattle.header.specs.Layout.{record_size}
use Rattle.records.specs.Rules.{record_in}
use Rattle.hierarchy.specs.declared.users.Users.{Users}
use Rattle.hierarchy.specs.Forest.{Forest}
use Rattle.hierarchy.specs.Below.{record_sets}

-- where the record of the user at place u begins
unfoldable pub user_at : Users → ℕ → ℕ
user_at l u = l.base + l.size * u + l.gap * (u / l.each)

-- that record
abbrev pub user_in : Users → List ℕ → ℕ → List ℕ
user_in l bytes u = part bytes (user_at l u) l.size

-- there is a user at place u, and this is the record, which is as long as any of its edition and 128 bytes at least
pub record UserRecord (l : Users) (bytes : List ℕ) (u : ℕ) (rec : List ℕ) : Type 0 where
  pub here : u < l.count
  pub is : rec ≡ user_in l bytes u
  pub size : length rec ≡ record_size l.edition User
  pub least : 128 ≤ length rec

-- all of them are among the bytes, and they are so few that no place overflows
pub record Among (l : Users) (bytes : List ℕ) : Type 0 where
  pub some : 1 ≤ l.each
  pub few : l.count < 2 ^ 60
  pub size : l.size ≡ record_size l.edition User
  pub whole : (u : ℕ) → u < l.count → user_at l u + l.size ≤ length bytes

-- and they are these records
pub record Held (edition : Edition) (records : List (List ℕ)) (bytes : List ℕ) (l : Users) : Type 0 where
  pub among : Among l bytes
  pub same : l.edition ≡ edition
  pub count : l.count ≡ length records
  pub each : (u : ℕ) → u < l.count → user_in l bytes u ≡ record_in records u

-- ---- the rule of the sets of groups
-- of the user at place u
abbrev pub user_rule : Profile → Forest → Users → List ℕ → ℕ → Bool
user_rule profile f l bytes u = record_sets profile f l.edition (user_in l bytes u)

-- the lowest user whose groups break it; the number of users where there is none
abbrev pub first_bad_user : Profile → Forest → Users → List ℕ → ℕ
first_bad_user profile f l bytes = first_bad (user_rule profile f l bytes) l.count 0
