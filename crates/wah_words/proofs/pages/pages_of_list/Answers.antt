use Rattle.wah_words.proofs.PagesOfLists.{group_at-lt, pages_held, pages_list, pages_spelled}
use Rattle.wah_words.proofs.pages.pages_of_list.Goals as goal

pub returns-clause-held : goal.returns-clause-held
returns-clause-held c groups list = pages_held groups list

pub returns-clause-list : goal.returns-clause-list
returns-clause-list c groups list = pages_list groups list

pub returns-clause-spelled : goal.returns-clause-spelled
returns-clause-spelled c groups rows = pages_spelled groups rows

pub returns-clause-within : goal.returns-clause-within
returns-clause-within c list k = group_at-lt list k
