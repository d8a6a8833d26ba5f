-- What the certificates are of, and the groups and lists that they are found by.
-- Assumes nothing.
use Rattle.std.specs.Prelude.{◌≡◌, Bool, true, false, not, ◌&&◌, ◌||◌, List, ℕ, zero, suc, ◌+◌, ◌≤◌, ◌<◌, min, T, eqb, ltb, get_or, length}
use Rattle.protocol.specs.Sets.{bit, every}
use Rattle.protocol.specs.Lists.{pairwise, first, when}
use Rattle.protocol.specs.Statement.{Stmt, is_kind, payload_of}
use Rattle.protocol.specs.Evidence.{signed_by_quorum, prepares, is_prepared, certificates, is_stored}
use Rattle.protocol.specs.Count.{count_quorum}
use Rattle.protocol.specs.Grounds.{is_top}
use Rattle.views.specs.View.{ring_of_word}
use Rattle.pool.specs.Pool.{record_up_to}
use Rattle.tables.specs.Index.{key_at, RowLinked, Chained}
use Rattle.views.specs.Tally.{place_in, own_in}
use Rattle.votes.specs.Votes.{alike, entry, vote_at, GroupsIn}
use Rattle.evidence.specs.declared.certificates.Acked.{Acked}
use Rattle.evidence.specs.declared.certificates.Acked.TheVariants.{Nothing, One, Many}
use Rattle.evidence.specs.declared.certificates.Certified.{Certified}

module _ (init : ℕ) (X : List Stmt) where
  -- An ack or a store, by a quorum of a sealed top.
  unfoldable pub is_backed : Stmt → Bool
  is_backed s = (is_kind 7 s || is_kind 8 s) && signed_by_quorum 16 X s.at (alike s) && is_top (ring_of_word init) X s.at

-- The groups of a record in G, after which a word without a tag stands if there is room: so their number need not be known.
pub record Ended (W ids G : List ℕ) : Type 0 where
  pub count : ℕ
  pub groups : GroupsIn W ids G count
  pub end : count < 512 → own_in (get_or G count 0) ≡ 0

-- The n groups of G are those of acks and of stores by a quorum of a sealed top. Each stands at the place of the statement that completed it.
module _ (W ids : List ℕ) (len init : ℕ) where
  pub record Backed (G : List ℕ) (n : ℕ) : Type 0 where
    pub most : n ≤ 512
    pub place : (g : ℕ) → g < n → place_in (get_or G g 0) < min len 512
    pub sound : (g : ℕ) → g < n → T (is_backed init (record_up_to W ids len) (vote_at W ids G g))
    pub read : (g : ℕ) → g < n → count_quorum 16 (vote_at W ids G g).at (alike (vote_at W ids G g)) (record_up_to W ids len) ≡ record { reached = true; read = place_in (get_or G g 0) + 1 }
    pub covers : (i : ℕ) → i < min len 512 → T (is_backed init (record_up_to W ids len) (entry W ids i)) → (g : ℕ) × (g < n) × T (alike (vote_at W ids G g) (entry W ids i))

-- The same of a record in memory.
abbrev pub BackedIn : List ℕ → List ℕ → ℕ → List ℕ → ℕ → Type 0
BackedIn W ids init G n = Backed W ids (get_or ids 512 0) init G n

-- Of the first n groups those of acks are of this notice and have this payload, and there are some.
pub record OneAcked (W ids G : List ℕ) (n notice payload : ℕ) : Type 0 where
  pub one : (g : ℕ) × (g < n) × ((vote_at W ids G g).kind ≡ 7) × ((vote_at W ids G g).notice ≡ notice) × (payload_of (vote_at W ids G g) ≡ payload)
  pub all : (g : ℕ) → g < n → (vote_at W ids G g).kind ≡ 7 → ((vote_at W ids G g).notice ≡ notice) × (payload_of (vote_at W ids G g) ≡ payload)

-- Of the first n groups none is of acks; or those of acks are of one notice and have one payload; or they have many.
abbrev pub AckedOf : List ℕ → List ℕ → List ℕ → ℕ → Acked → Type 0
AckedOf W ids G n Nothing = (g : ℕ) → g < n → (vote_at W ids G g).kind ≡ 7 → ⊥
AckedOf W ids G n (One a) = OneAcked W ids G n a.notice a.payload
AckedOf W ids G n Many = Unit {0}

-- ---- what was prepared

-- A prepare of the payload m of notice i by its sender.
unfoldable pub prepares_it : List ℕ → ℕ → ℕ → Stmt → Bool
prepares_it senders i m s = prepares senders i s && eqb (payload_of s) m

-- A prepare of a notice of the ring by its sender.
unfoldable pub prepares_one : List ℕ → Stmt → Bool
prepares_one senders s = ltb s.notice (length senders) && prepares senders s.notice s

-- A number below n has p.
unfoldable pub some_below : ℕ → (ℕ → Bool) → Bool
some_below zero p = false
some_below (suc n) p = some_below n p || p n

-- The n rows of a table in memory are prepares: in K, row c has its payload among the first keys and its notice among the second.

-- A row is of notice i and has the payload m.
unfoldable pub listed : List ℕ → ℕ → ℕ → ℕ → Bool
listed K n i m = some_below n (λ c. eqb (key_at K 1 c) i && eqb (key_at K 0 c) m)

-- Two rows of notice i have different payloads.
unfoldable pub twofold : List ℕ → ℕ → ℕ → Bool
twofold K n i = some_below n (λ c. some_below n (λ d. eqb (key_at K 1 c) i && eqb (key_at K 1 d) i && not (eqb (key_at K 0 c) (key_at K 0 d))))

-- The prepare s became row n.
pub record PrepareAdded (s : Stmt) (n : ℕ) (K R K' R' : List ℕ) : Type 0 where
  pub payload : (s.kind ≡ 5 → ⊥) → key_at K' 0 n ≡ payload_of s
  pub notice : key_at K' 1 n ≡ s.notice
  pub payloads : (c : ℕ) → c < n → key_at K' 0 c ≡ key_at K 0 c
  pub notices : (c : ℕ) → c < n → key_at K' 1 c ≡ key_at K 1 c
  pub linked : RowLinked R 0 s.notice n R'

-- The index R leads from each notice to its rows.
pub record Linked (K R : List ℕ) (n : ℕ) : Type 0 where
  pub few : n ≤ 512
  pub chained : Chained (key_at K 1) R 0 n

-- The rows are what the senders prepared.
pub record PreparedList (senders : List ℕ) (X : List Stmt) (K R : List ℕ) (n : ℕ) : Type 0 where
  pub linked : Linked K R n
  pub are : (i m : ℕ) → i < length senders → is_prepared senders X i m ≡ listed K n i m

-- ---- certificates

-- An ack of one of the rows, of one of the first `notices` notices.
unfoldable pub certifies_by : ℕ → List ℕ → ℕ → Stmt → Bool
certifies_by notices K n s = is_kind 7 s && ltb s.notice notices && listed K n s.notice (payload_of s)

-- A store of what has a certificate: `some` is the set of the certified notices, and P has their payloads.
unfoldable pub stores_one : ℕ → List ℕ → Stmt → Bool
stores_one some P s = is_kind 8 s && bit some s.notice && eqb (payload_of s) (get_or P s.notice 0)

pub record CertificatesOf (init : ℕ) (senders : List ℕ) (X : List Stmt) (P : List ℕ) (r : Certified) : Type 0 where
  pub conflict : r.conflict ≡ not (every (length senders) (λ i. pairwise eqb (certificates (ring_of_word init) senders X i)))
  pub certificate : r.conflict ≡ false → (i : ℕ) → i < length senders → when (bit r.some i) (get_or P i 0) ≡ first (certificates (ring_of_word init) senders X i)
  pub within : (i : ℕ) → length senders ≤ i → bit r.some i ≡ false

-- r is the set with notice i alone, and P has m for it, if the sender of i prepared m; otherwise r is empty.
pub record OneCertificate (senders : List ℕ) (X : List Stmt) (i m : ℕ) (P : List ℕ) (r : ℕ) : Type 0 where
  pub here : i < length senders → bit r i ≡ is_prepared senders X i m
  pub payload : bit r i ≡ true → get_or P i 0 ≡ m
  pub others : (k : ℕ) → (k ≡ i → ⊥) → bit r k ≡ false
  pub within : length senders ≤ i → bit r i ≡ false

-- r is the set of those of the certified notices whose payload is stored.
pub record StoredOf (init : ℕ) (X : List Stmt) (some : ℕ) (P : List ℕ) (r : ℕ) : Type 0 where
  pub are : (i : ℕ) → i < 64 → bit some i ≡ true → bit r i ≡ is_stored (ring_of_word init) X i (get_or P i 0)
