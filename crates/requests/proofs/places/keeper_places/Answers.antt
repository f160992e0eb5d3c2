use Rattle.std.proofs.Common.{◌≡◌, ◌∙◌, ℕ, List, map, length, Vec, Global, ap, subst, arith}
use Rattle.requests.specs.declared.words.Words.{Words}
use Rattle.requests.specs.declared.request.Request as in_memory
use Rattle.requests.specs.Request.{Request, Says, words_of}
use Rattle.requests.specs.RequestModel.{request_of}
use Rattle.requests.specs.Places.{places_of, folder_at}
use Rattle.requests.proofs.Requests.{one_request}
use Rattle.requests.proofs.NumberTests.{all_front}
use Rattle.requests.proofs.RefusalUniqueness.{not_asked, not_refused}
use Rattle.requests.proofs.FolderPlaces.{few_options, folders_said}
use Rattle.requests.proofs.places.keeper_places.Goals as goal

-- what the words in memory say
said : (words : Words) (list : List (Vec ℕ Global)) (r : in_memory.Request) → list ≡ words.list.items → Says (map (λ w. w.items) list) (request_of r) → Says (words_of words) (request_of r)
said words list r e says = let P : List (Vec ℕ Global) → Type 0 = λ l. Says (map (λ w. w.items) l) (request_of r) in subst P e says

pub places-requires : goal.places-requires
places-requires c =
    let few = few_options c.in-Some.request.options c.in-Some.ensures.found.options (all_front _ _ c.in-None.ensures) in
    omega (arith, ap length c.words.ensures, few)

pub returns-in-Some-refusal-clause-asked : goal.returns-in-Some-refusal-clause-asked
returns-in-Some-refusal-clause-asked c r asks =
    let says = said c.args.words.now _ c.in-Some.request c.deref.ensures.value c.in-Some.ensures.found in
    absurd (not_asked (words_of c.args.words.now) (request_of c.in-Some.request) r c.in-Some-refusal.field-0 says c.in-Some-refusal.ensures asks)

pub returns-in-Some-refusal-clause-folders : goal.returns-in-Some-refusal-clause-folders
returns-in-Some-refusal-clause-folders c r asks =
    let says = said c.args.words.now _ c.in-Some.request c.deref.ensures.value c.in-Some.ensures.found in
    absurd (not_asked (words_of c.args.words.now) (request_of c.in-Some.request) r c.in-Some-refusal.field-0 says c.in-Some-refusal.ensures asks)

pub returns-in-None-clause-asked : goal.returns-in-None-clause-asked
returns-in-None-clause-asked c r asks =
    let says = said c.args.words.now _ c.in-Some.request c.deref.ensures.value c.in-Some.ensures.found in
    c.places.ensures ∙ ap places_of (c.words.ensures ∙ ap (λ (x : Request). x.options) (one_request (words_of c.args.words.now) (request_of c.in-Some.request) r says asks.says))

pub returns-in-None-clause-refused : goal.returns-in-None-clause-refused
returns-in-None-clause-refused c e refuses =
    let says = said c.args.words.now _ c.in-Some.request c.deref.ensures.value c.in-Some.ensures.found in
    absurd (not_refused (words_of c.args.words.now) (request_of c.in-Some.request) e says c.in-None.ensures refuses)

pub returns-in-None-clause-folders : goal.returns-in-None-clause-folders
returns-in-None-clause-folders c r asks =
    ap (map (folder_at (words_of c.args.words.now))) (returns-in-None-clause-asked c r asks) ∙ folders_said (words_of c.args.words.now) r asks.says
