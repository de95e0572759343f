mod TakenLines
