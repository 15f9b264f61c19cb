-- Table 7.2 of 002 at the smallest and the largest size, its "12 k + 17" worked out from the paper's rows, and which bits are whose. Assumes nothing.
use mathlib.Core.Path.{◌≡◌, refl}
use mathlib.Core.List.{List, [], ◌∷◌, map}
use Prim.Native.Nat.{ℕ, ◌+◌, ◌-◌, ◌*◌}
use Rattle.dataframe.specs.Table.{synchronous, plesiochronous, smallest, largest, sync, indicators, eoc, crc, spare, sbid, stuffing}
use Rattle.dataframe.specs.Places.{block, payload_place, overhead_place, numbers_from, numbers_of}

-- ---- "Frame Bit #" beside "OH Bit #"

-- all overhead bits with their places
abbrev pub overhead_rows : ℕ → List (ℕ × ℕ)
overhead_rows k = map (λ (o : ℕ). (o, overhead_place k o)) (numbers_from 1 50)

-- the places of the first and of the last bit of each block
abbrev pub payload_rows : ℕ → List (ℕ × ℕ)
payload_rows k = map (λ (n : ℕ). (payload_place k (block k * n), payload_place k (block k * n + block k - 1))) (numbers_from 0 4)

-- k = 24
pub overhead-24 : overhead_rows smallest
    ≡ (1, 1) ∷ (2, 2) ∷ (3, 3) ∷ (4, 4) ∷ (5, 5) ∷ (6, 6) ∷ (7, 7) ∷ (8, 8) ∷ (9, 9) ∷ (10, 10) ∷ (11, 11) ∷ (12, 12) ∷ (13, 13) ∷ (14, 14)
    ∷ (15, 15) ∷ (16, 16)
    ∷ (17, 305) ∷ (18, 306) ∷ (19, 307) ∷ (20, 308) ∷ (21, 309) ∷ (22, 310) ∷ (23, 311) ∷ (24, 312) ∷ (25, 313) ∷ (26, 314)
    ∷ (27, 603) ∷ (28, 604) ∷ (29, 605) ∷ (30, 606) ∷ (31, 607) ∷ (32, 608) ∷ (33, 609) ∷ (34, 610) ∷ (35, 611) ∷ (36, 612)
    ∷ (37, 901) ∷ (38, 902) ∷ (39, 903) ∷ (40, 904) ∷ (41, 905) ∷ (42, 906) ∷ (43, 907) ∷ (44, 908) ∷ (45, 909) ∷ (46, 910)
    ∷ (47, 1199) ∷ (48, 1200) ∷ (49, 1201) ∷ (50, 1202) ∷ []
overhead-24 = refl

pub payload-24 : payload_rows smallest ≡ (17, 304) ∷ (315, 602) ∷ (613, 900) ∷ (911, 1198) ∷ []
payload-24 = refl

-- k = 289
pub overhead-289 : overhead_rows largest
    ≡ (1, 1) ∷ (2, 2) ∷ (3, 3) ∷ (4, 4) ∷ (5, 5) ∷ (6, 6) ∷ (7, 7) ∷ (8, 8) ∷ (9, 9) ∷ (10, 10) ∷ (11, 11) ∷ (12, 12) ∷ (13, 13) ∷ (14, 14)
    ∷ (15, 15) ∷ (16, 16)
    ∷ (17, 3485) ∷ (18, 3486) ∷ (19, 3487) ∷ (20, 3488) ∷ (21, 3489) ∷ (22, 3490) ∷ (23, 3491) ∷ (24, 3492) ∷ (25, 3493) ∷ (26, 3494)
    ∷ (27, 6963) ∷ (28, 6964) ∷ (29, 6965) ∷ (30, 6966) ∷ (31, 6967) ∷ (32, 6968) ∷ (33, 6969) ∷ (34, 6970) ∷ (35, 6971) ∷ (36, 6972)
    ∷ (37, 10441) ∷ (38, 10442) ∷ (39, 10443) ∷ (40, 10444) ∷ (41, 10445) ∷ (42, 10446) ∷ (43, 10447) ∷ (44, 10448) ∷ (45, 10449) ∷ (46, 10450)
    ∷ (47, 13919) ∷ (48, 13920) ∷ (49, 13921) ∷ (50, 13922) ∷ []
overhead-289 = refl

pub payload-289 : payload_rows largest ≡ (17, 3484) ∷ (3495, 6962) ∷ (6973, 10440) ∷ (10451, 13918) ∷ []
payload-289 = refl

-- ---- "Abr. Name" beside "OH Bit #", for every size

-- the overhead's streams with the numbers of their bits
abbrev pub name_rows : ℕ → ℕ → ℕ → List (ℕ × List ℕ)
name_rows form k s = map (λ (x : ℕ). (x, numbers_of x form k s)) (sync ∷ indicators ∷ eoc ∷ crc ∷ spare ∷ sbid ∷ stuffing ∷ [])

-- the paper's, of which the forms have the last three by themselves
abbrev pub names : List ℕ → List ℕ → List ℕ → List (ℕ × List ℕ)
names spares sbids stbs =
    (sync, 1 ∷ 2 ∷ 3 ∷ 4 ∷ 5 ∷ 6 ∷ 7 ∷ 8 ∷ 9 ∷ 10 ∷ 11 ∷ 12 ∷ 13 ∷ 14 ∷ [])
    ∷ (indicators, 15 ∷ 16 ∷ 23 ∷ 33 ∷ [])
    ∷ (eoc, 17 ∷ 18 ∷ 19 ∷ 20 ∷ 25 ∷ 26 ∷ 27 ∷ 28 ∷ 29 ∷ 30 ∷ 34 ∷ 35 ∷ 37 ∷ 38 ∷ 39 ∷ 40 ∷ 43 ∷ 44 ∷ 45 ∷ 46 ∷ [])
    ∷ (crc, 21 ∷ 22 ∷ 31 ∷ 32 ∷ 41 ∷ 42 ∷ [])
    ∷ (spare, spares) ∷ (sbid, sbids) ∷ (stuffing, stbs) ∷ []

-- "spare in synchronous mode": sbid1, sbid2, spa1 and spa2
pub names-synchronous : (k s : ℕ) → name_rows synchronous k s ≡ names (24 ∷ 36 ∷ 47 ∷ 48 ∷ []) [] []
names-synchronous k s = refl

-- with stb1 to stb4, and with none of them
pub names-stuffed : (k : ℕ) → name_rows plesiochronous k 4 ≡ names [] (24 ∷ 36 ∷ []) (47 ∷ 48 ∷ 49 ∷ 50 ∷ [])
names-stuffed k = refl

pub names-not-stuffed : (k : ℕ) → name_rows plesiochronous k 0 ≡ names [] (24 ∷ 36 ∷ []) []
names-not-stuffed k = refl
